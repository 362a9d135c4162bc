-- The state of the store, as its clients see it; docs/MODEL.md says what each field is. What holds between the fields is a law of
-- histories (`IsProper`), and no promise of the type.
use Rattle.std.specs.{Prelude.{ℕ, List, Option, None}, Ordering.nat_cmp}
use Rattle.std.specs.FinMap as map
use Rattle.std.specs.FinSet as set
use Rattle.ss_records.specs.declared.record.Config.{Config as Settings}
pub use Rattle.ss_cid.specs.Maps.{Kept, CidSet}

abbrev pub ViewSet : Type 0
ViewSet = set.FinSet nat_cmp

pub record State : Type 0 where
  pub config : Settings
  pub kept : Kept
  pub hot : CidSet
  pub head : Option (ℕ × List (List ℕ))
  pub base : ℕ
  pub ended : ℕ
  pub views : ViewSet

-- the state of a new store with these settings
abbrev pub empty_state : Settings → State
empty_state config = record { config = config; kept = map.empty; hot = set.empty; head = None; base = 0; ended = 0; views = set.empty }

-- the state without its views: what lasts when the store is closed
abbrev pub closed : State → State
closed s = record s { views = set.empty }
