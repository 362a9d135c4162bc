-- Reading one part from the start of what is left of an input: the part and the bytes after it, or the first
-- fault. `end` is the length of the whole input, so what is left begins at the offset `end - length bytes`.
use Rattle.std.specs.{Prelude.{ℕ, zero, ◌+◌, ◌-◌, ◌/◌, ◌%◌, ◌^◌, ◌==◌, ◌&&◌, nat_lt, nat_le, if◌then◌else◌, Bool, true, false, List, [], ◌∷◌, length, take, drop, Option, Some, None, Result, Ok, Err, suc, ◌++◌}, Int.{Width, w8, w16, w32, w64, byte_len, from_be_bytes}}
use Rattle.ss_cid.specs.{Cid.cid_len, Steps.{◌>>=◌}, declared.fault.CidFault.CidFault}
use Rattle.ss_cbor.specs.{Item.{Part, items_in, uint, nint, blob, text, array, map, link, float, bool, null, links_of}, declared.fault.CborFault.CborFault, declared.fault.CborKind.CborKind}

-- a fault of this kind at an offset
abbrev pub fails : {A : Type 0} → CborKind → ℕ → Result A CborFault
fails kind at = Err (record { kind = kind; at = at })

-- an argument in bytes of its own, which is no less than the first that a shorter form has no room for
unfoldable pub wide_at : Width → ℕ → ℕ → ℕ → List ℕ → Result (ℕ × List ℕ) CborFault
wide_at w least at end bytes =
    if nat_lt (length bytes) (byte_len w) then fails CborKind.Truncated end
    else if nat_lt (from_be_bytes w (take (byte_len w) bytes)) least then fails CborKind.LongHead at
    else Ok (from_be_bytes w (take (byte_len w) bytes), drop (byte_len w) bytes)

-- byte strings, texts, arrays and maps have a form without a length in CBOR, which is refused here
abbrev pub has_indefinite_form : ℕ → Bool
has_indefinite_form major = nat_le 2 major && nat_le major 5

-- the argument of the head at an offset, by the low five bits of its first byte and what follows that byte
unfoldable pub argument_at : ℕ → ℕ → ℕ → ℕ → List ℕ → Result (ℕ × List ℕ) CborFault
argument_at major low at end bytes =
    if nat_lt low 24 then Ok (low, bytes)
    else if low == 24 then wide_at w8 24 at end bytes
    else if low == 25 then wide_at w16 (2 ^ 8) at end bytes
    else if low == 26 then wide_at w32 (2 ^ 16) at end bytes
    else if low == 27 then wide_at w64 (2 ^ 32) at end bytes
    else if (low == 31) && has_indefinite_form major then fails CborKind.Indefinite at
    else fails CborKind.LongHead at

-- so many bytes, and those after them
unfoldable pub bytes_at : ℕ → ℕ → List ℕ → Result (List ℕ × List ℕ) CborFault
bytes_at len end bytes =
    if nat_lt (length bytes) len then fails CborKind.Truncated end else Ok (take len bytes, drop len bytes)

-- a part that holds items, which with the `due` items after it are at most 2 ^ 63 - 1
unfoldable pub holding : Part → ℕ → ℕ → List ℕ → Result (Option Part × List ℕ) CborFault
holding part due at bytes =
    if nat_lt (due + items_in part) (2 ^ 63) then Ok (Some part, bytes) else fails CborKind.CountTooLarge at

-- what a head stands for by its major type and argument, with its content: a part, or nothing yet for tag 42
unfoldable pub content_at : ℕ → ℕ → ℕ → ℕ → ℕ → List ℕ → Result (Option Part × List ℕ) CborFault
content_at major n due at end bytes =
    if major == 0 then Ok (Some (uint n), bytes)
    else if major == 1 then Ok (Some (nint n), bytes)
    else if major == 2 then (bytes_at n end bytes >>= λ x. Ok (Some (blob x.0), x.1))
    else if major == 3 then (bytes_at n end bytes >>= λ x. Ok (Some (text x.0), x.1))
    else if major == 4 then holding (array n) due at bytes
    else if major == 5 then holding (map n) due at bytes
    else if n == 42 then Ok (None, bytes)
    else fails CborKind.OtherTag at

-- what a first byte of major type 7 stands for
unfoldable pub simple_at : ℕ → ℕ → ℕ → List ℕ → Result (Option Part × List ℕ) CborFault
simple_at byte at end bytes =
    if byte == 0xf4 then Ok (Some (bool false), bytes)
    else if byte == 0xf5 then Ok (Some (bool true), bytes)
    else if byte == 0xf6 then Ok (Some null, bytes)
    else if byte == 0xfb then (bytes_at 8 end bytes >>= λ x. Ok (Some float, x.1))
    else fails CborKind.BadSimple at

-- one head with its content, after which `due` items are due: a part, or nothing yet for tag 42
unfoldable pub piece_at : ℕ → ℕ → List ℕ → Result (Option Part × List ℕ) CborFault
piece_at due end [] = fails CborKind.Truncated end
piece_at due end (byte ∷ bytes) =
    let major = byte / 32 in
    let at = end - (length bytes + 1) in
    if major == 7 then simple_at byte at end bytes
    else (argument_at major (byte % 32) at end bytes >>= λ x. content_at major x.0 due at end x.1)

abbrev pub is_whole : Result ℕ CidFault → ℕ → Bool
is_whole (Ok len) all = len == all
is_whole (Err fault) all = false

-- the bytes are one whole CID
unfoldable pub is_cid : List ℕ → Bool
is_cid bytes = is_whole (cid_len bytes) (length bytes)

-- what stands after tag 42 is a byte string, the byte 00 and a whole CID; else the tag is at fault
unfoldable pub linked : ℕ → Option Part → Result Part CborFault
linked at (Some (blob (zero ∷ cid))) = if is_cid cid then Ok (link cid) else fails CborKind.BadLink at
linked at _ = fails CborKind.BadLink at

-- The part that a piece at an offset begins. After tag 42 the faults of the next head come first.
unfoldable pub part_from : ℕ → ℕ → ℕ → Option Part → List ℕ → Result (Part × List ℕ) CborFault
part_from due end at (Some part) bytes = Ok (part, bytes)
part_from due end at None bytes = do
  piece ← piece_at due end bytes
  part ← linked at piece.0
  Ok (part, piece.1)

-- one part, after which `due` items are due
unfoldable pub part_at : ℕ → ℕ → List ℕ → Result (Part × List ℕ) CborFault
part_at due end bytes = do
  piece ← piece_at due end bytes
  part_from due end (end - length bytes) piece.0 piece.1

-- ---- one part of a kind: what an array's head, a number, a link or a byte string says, and what follows it

abbrev pub as_count : Result (Part × List ℕ) CborFault → Option (ℕ × List ℕ)
as_count (Ok (array n, rest)) = Some (n, rest)
as_count _ = None

abbrev pub as_number : Result (Part × List ℕ) CborFault → Option (ℕ × List ℕ)
as_number (Ok (uint n, rest)) = Some (n, rest)
as_number _ = None

abbrev pub as_link : Result (Part × List ℕ) CborFault → Option (List ℕ × List ℕ)
as_link (Ok (link cid, rest)) = Some (cid, rest)
as_link _ = None

abbrev pub as_blob : Result (Part × List ℕ) CborFault → Option (List ℕ × List ℕ)
as_blob (Ok (blob bytes, rest)) = Some (bytes, rest)
as_blob _ = None

unfoldable pub count_from : ℕ → List ℕ → Option (ℕ × List ℕ)
count_from end bytes = as_count (part_at 0 end bytes)

unfoldable pub number_from : ℕ → List ℕ → Option (ℕ × List ℕ)
number_from end bytes = as_number (part_at 0 end bytes)

unfoldable pub link_from : ℕ → List ℕ → Option (List ℕ × List ℕ)
link_from end bytes = as_link (part_at 0 end bytes)

unfoldable pub blob_from : ℕ → List ℕ → Option (List ℕ × List ℕ)
blob_from end bytes = as_blob (part_at 0 end bytes)

-- the links, or none where there is a fault
abbrev pub or_none : Result (List (List ℕ)) CborFault → List (List ℕ)
or_none (Ok links) = links
or_none (Err fault) = []

-- the links of the parts at the start, up to the first fault, in at most so many parts
unfoldable pub links_by : ℕ → List ℕ → List (List ℕ)
links_by zero bytes = []
links_by (suc most) bytes = or_none (part_at 0 (length bytes) bytes >>= λ x. Ok (links_of x.0 ++ links_by most x.1))

-- the links of the parts at the start, up to the first fault or the end
unfoldable pub links_left : List ℕ → List (List ℕ)
links_left bytes = links_by (length bytes) bytes
