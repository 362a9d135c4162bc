-- The script of `trace`; docs/FORMATS.md has the form of each line. Fields are judged from left to right, and a bad line is reported
-- for the first that is at fault, whether it is missing, empty, one too many or not of its form.
use Rattle.std.specs.{Prelude.{ℕ, ◌+◌, ◌==◌, ◌||◌, nat_lt, Bool, List, [], ◌∷◌, ◌++◌, if◌then◌else◌, length, slice_index, codes, Option, Some, None, Result, Ok, Err}, List.slice_split, Option.option_to_list, Str.bytes_eq, Io.BufRead.strip_last}
use Rattle.ss_cid.specs.Steps.{◌>>=◌}
use Rattle.ss_script.specs.{declared.TheConstants.LINES, declared.call.ScriptCall.ScriptCall, declared.line.Line.Line, declared.fault.{ScriptKind.ScriptKind, ScriptFault.ScriptFault}, Fields.{fields_of, field_by, first_by, ended, client_of, number_of, cid_of, data_of}}

-- the lines of a text; after the LF that ends it there is none
abbrev pub lines_of : List ℕ → List (List ℕ)
lines_of text = slice_split (λ b. b == 10) (strip_last 10 text)

-- the line holds no call
abbrev pub is_blank : List ℕ → Bool
is_blank line = (length line == 0) || (slice_index line 0 == 35)

-- the pairs of a put
abbrev pub pairs_of : List (List ℕ) → Result (List (List ℕ × List ℕ)) ScriptKind
pairs_of [] = Ok []
pairs_of (cid ∷ []) = do
  c ← field_by cid_of cid
  Err ScriptKind.BadFields
pairs_of (cid ∷ block ∷ fields) = do
  c ← field_by cid_of cid
  b ← field_by data_of block
  pairs ← pairs_of fields
  Ok ((c, b) ∷ pairs)

-- the CIDs of a head
abbrev pub cids_of : List (List ℕ) → Result (List (List ℕ)) ScriptKind
cids_of [] = Ok []
cids_of (cid ∷ fields) = do
  c ← field_by cid_of cid
  cids ← cids_of fields
  Ok (c ∷ cids)

-- a call that names nothing
abbrev pub bare_of : ScriptCall → List (List ℕ) → Result ScriptCall ScriptKind
bare_of named fields = do
  end ← ended fields
  Ok named

abbrev pub close_of : List (List ℕ) → Result ScriptCall ScriptKind
close_of fields = do
  view ← first_by number_of fields
  end ← ended view.1
  Ok (ScriptCall.CloseView view.0)

abbrev pub put_of : List (List ℕ) → Result ScriptCall ScriptKind
put_of fields = do
  view ← first_by number_of fields
  pairs ← pairs_of view.1
  Ok (ScriptCall.Put view.0 pairs)

-- the view and the CID of a get, a has or a size
abbrev pub view_and_cid_of : List (List ℕ) → Result (ℕ × List ℕ) ScriptKind
view_and_cid_of fields = do
  view ← first_by number_of fields
  cid ← first_by cid_of view.1
  end ← ended cid.1
  Ok (view.0, cid.0)

-- such a call, by its variant
abbrev pub cid_call_of : (ℕ → List ℕ → ScriptCall) → List (List ℕ) → Result ScriptCall ScriptKind
cid_call_of named fields = do
  asked ← view_and_cid_of fields
  Ok (named asked.0 asked.1)

abbrev pub head_of : List (List ℕ) → Result ScriptCall ScriptKind
head_of fields = do
  cids ← cids_of fields
  Ok (ScriptCall.SetHead cids)

-- the call of a name and the fields after it
abbrev pub named_call : List ℕ → List (List ℕ) → Result ScriptCall ScriptKind
named_call name fields =
    if bytes_eq name (codes "open") then bare_of ScriptCall.OpenView fields
    else if bytes_eq name (codes "close") then close_of fields
    else if bytes_eq name (codes "put") then put_of fields
    else if bytes_eq name (codes "get") then cid_call_of ScriptCall.Get fields
    else if bytes_eq name (codes "has") then cid_call_of ScriptCall.Has fields
    else if bytes_eq name (codes "size") then cid_call_of ScriptCall.Size fields
    else if bytes_eq name (codes "head") then head_of fields
    else if bytes_eq name (codes "info") then bare_of ScriptCall.Info fields
    else if bytes_eq name (codes "begin") || bytes_eq name (codes "step") then Err ScriptKind.NotYet
    else Err ScriptKind.UnknownCall

-- the client, one of so many, and the call of a line's fields
abbrev pub call_of : ℕ → List (List ℕ) → Result (ℕ × ScriptCall) ScriptKind
call_of clients fields = do
  client ← first_by (client_of clients) fields
  name ← first_by Ok client.1
  call ← named_call name.0 name.1
  Ok (client.0, call)

abbrev pub line_with : ℕ → Result (ℕ × ScriptCall) ScriptKind → Result (Option Line) ScriptFault
line_with n (Ok c) = Ok (Some (record { client = c.0; line = n; call = c.1 }))
line_with n (Err kind) = Err (ScriptFault.Bad n kind)

-- what the line of this number asks for, if it holds a call
unfoldable pub line_of : ℕ → ℕ → List ℕ → Result (Option Line) ScriptFault
line_of clients n line =
    if nat_lt LINES n then Err (ScriptFault.Bad n ScriptKind.TooManyLines)
    else if is_blank line then Ok None
    else line_with n (call_of clients (fields_of line))

-- the calls of lines of which the first has this number, or the first bad line
abbrev pub script_from : ℕ → ℕ → List (List ℕ) → Result (List Line) ScriptFault
script_from clients n [] = Ok []
script_from clients n (line ∷ lines) = do
  first ← line_of clients n line
  more ← script_from clients (n + 1) lines
  Ok (option_to_list first ++ more)

-- the calls of a script of so many clients, or the first bad line
abbrev pub script_of : ℕ → List ℕ → Result (List Line) ScriptFault
script_of clients text = script_from clients 1 (lines_of text)
