-- The entries of a run of `trace`, and how far it has come: what they left of the store, and what was printed of them.
use Rattle.std.specs.{Prelude.{◌≡◌, ℕ, Bool, true, false, List, [], ◌∷◌, ◌++◌, length, Result, Ok, Err}, Io.KnownBytes.Appends}
use Rattle.ss_device.specs.{declared.disk.Disk.Ghosts, Disk.Rose}
use Rattle.ss_model.specs.declared.call.Entry.{Entry}
use Rattle.ss_core.specs.declared.split_core.SplitCore.{SplitCore}
use Rattle.ss_script.specs.{declared.line.Line.Line, Text.text, Views.{no_views, after_line, client_views, resolved}}
use Rattle.ss_history.specs.Story.{Story}
use Rattle.ss_app.specs.World.{Output}
use Rattle.ss_io.specs.Streams.{AppendsFront}
use Rattle.ss_cid.specs.declared.memory.NoMemory as no_memory

-- the entry is the line's, where the clients have these views
pub record IsEntryOf (views : List (List ℕ)) (line : Line) (e : Entry) : Type 0 where
  pub client : e.client ≡ line.client
  pub line_is : e.line ≡ line.line
  pub call_is : e.call ≡ resolved (client_views views line.client) line.call

-- where the clients have these views, the entries are those of the lines, each once, in order
abbrev pub InOrder : List (List ℕ) → List Line → List Entry → Type 0
InOrder views [] [] = Unit {0}
InOrder views (line ∷ lines) (e ∷ h) = IsEntryOf views line e × InOrder (after_line views line e.answer) lines h
InOrder views _ _ = ⊥

-- the clients' views after all entries, which are those of the lines
abbrev pub views_behind : List (List ℕ) → List Line → List Entry → List (List ℕ)
views_behind views (line ∷ lines) (e ∷ h) = views_behind (after_line views line e.answer) lines h
views_behind views _ _ = views

-- the entries of these lines, with what is not printed of them
pub record Trail (h : List Entry) (unprinted : List ℕ) (refused : Bool) (made : List Line) (old new : Output) : Type 0 where
  pub printed : List ℕ
  pub in_order : InOrder no_views made h
  pub text_is : text h ≡ printed ++ unprinted
  pub wrote : Appends old.written new.written printed
  pub sound : refused ≡ false → new.faults ≡ old.faults
  pub rose : refused ≡ true → Rose old.faults new.faults

-- a run that goes on
pub record Progress {D : Type 0} {disk : Ghosts D} (was : D) (core : SplitCore D disk) (views : List (List ℕ)) (place : ℕ) (refused : Bool) (made : List Line) (old new : Output) : Type 0 where
  pub history : List Entry
  pub unprinted : List ℕ
  pub trail : Trail history unprinted refused made old new
  pub all_printed : refused ≡ false → unprinted ≡ []
  pub story : Story was core history
  pub views_are : views ≡ views_behind no_views made history
  pub place_is : place ≡ length history

-- a run that stops
pub record Cut {D : Type 0} {disk : Ghosts D} (was : D) (core : SplitCore D disk) (refused : Bool) (made : List Line) (old new : Output) : Type 0 where
  pub history : List Entry
  pub unprinted : List ℕ
  pub trail : Trail history unprinted refused made old new
  pub story : Story was core history

-- the run goes on, or stops out of memory, one line further
abbrev pub Stepped : {D : Type 0} {disk : Ghosts D} → D → SplitCore D disk → List (List ℕ) → ℕ → Bool → List Line → Output → Output → Result (Unit {0}) no_memory.NoMemory → Type 0
Stepped was core views place refused made old new (Ok _) = Progress was core views place refused made old new
Stepped was core views place refused made old new (Err _) = Cut was core refused made old new

-- What printing a line leaves in a sink. The first answer is whether it refused one before, and gets no more; the second whether it has now.
abbrev pub PrintsUnless : Bool → Output → Output → Bool → List ℕ → Type 0
PrintsUnless true old new refused line = (refused ≡ true) × Appends old.written new.written [] × (new.faults ≡ old.faults)
PrintsUnless false old new true line = AppendsFront old.written new.written line × Rose old.faults new.faults
PrintsUnless false old new false line = Appends old.written new.written line × (new.faults ≡ old.faults)
