-- What the state of BLAKE2b has taken in, and what a hasher over it was fed (RFC 7693, section 3.3).
use Rattle.std.specs.Prelude.{◌≡◌, ℕ, ◌/◌, ◌%◌, List, length, ◌<◌, ◌^◌, [], ◌++◌, take}
use Rattle.ss_hash.specs.{Blake2b.{hash_after, initial}, declared.state.State.State, declared.hasher.Blake2b.Blake2b}

-- the state s, for digests of n bytes, has taken in the whole blocks m
pub record IsAbsorbed (s : State) (n : ℕ) (m : List ℕ) : Type 0 where
  pub count : s.count ≡ length m
  pub whole : length m % 128 ≡ 0
  pub hash : s.hash ≡ hash_after (initial n) m (length m / 128)

-- the hasher s, for digests of n bytes, was fed m: blocks at its front are in the hash, and at most one waits, which may be the last
pub record Holds (s : Blake2b) (n : ℕ) (m : List ℕ) : Type 0 where
  pub front : List ℕ
  pub out_len : s.out_len ≡ n
  pub absorbed : IsAbsorbed s.state n front
  pub parts : m ≡ front ++ take s.filled s.buffer
  pub waits : s.filled ≡ 0 → front ≡ []
  pub short : length m < 2 ^ 64
