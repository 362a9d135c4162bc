-- The printed text of a history, one line an entry, as docs/FORMATS.md has it, and what writing a text leaves in a sink.
use Rattle.std.specs.{Prelude.{ℕ, ◌+◌, ◌==◌, Bool, List, [], ◌∷◌, ◌++◌, if◌then◌else◌, Option, None, Some, codes, length, Result}, List.flat_map, Fmt.decimal}
use Rattle.hex.specs.Hex.{encode_lower}
use Rattle.ss_cbor.specs.Fault.{number_of}
use Rattle.ss_model.specs.{declared.TheConstants.{NO_VIEW, COMPACTOR}, declared.call.Call.Call, declared.call.Answer.Answer, declared.call.Entry.Entry, declared.call.ViewReply.ViewReply, declared.call.PutReply.PutReply, declared.call.GetReply.GetReply, declared.call.CloseReply.CloseReply, declared.call.HasReply.HasReply, declared.call.SizeReply.SizeReply, declared.call.HeadReply.HeadReply, declared.call.Info.Info}
use Rattle.ss_records.specs.{declared.record.Config.Config, declared.record.Mode.Mode}
use Rattle.ss_io.specs.{Streams.{HasCause, PutAppends}, declared.sink.Sink.Ghosts}

-- All of the text is written, or, where the sink failed, a prefix of it; and the sink's count of faults rose exactly where it failed.
pub record Writes {K E : Type 0} (sink : Ghosts K) (old new : K) (result : Result (Unit {0}) E) (text : List ℕ) : Type 0 where
  pub bytes : PutAppends (sink.written old) (sink.written new) result text
  pub cause : HasCause (sink.faults old) (sink.faults new) result

-- a number after a space
abbrev pub number_text : ℕ → List ℕ
number_text n = codes " " ++ decimal n

abbrev pub numbers_text : List ℕ → List ℕ
numbers_text numbers = flat_map number_text numbers

-- a name and a number
abbrev pub named_text : List ℕ → ℕ → List ℕ
named_text name n = name ++ number_text n

abbrev pub bytes_text : List ℕ → List ℕ
bytes_text bytes = if length bytes == 0 then codes "-" else encode_lower bytes

abbrev pub view_text : ℕ → List ℕ
view_text v = if v == NO_VIEW then codes " -" else number_text v

abbrev pub client_text : ℕ → List ℕ
client_text c = if c == COMPACTOR then codes " c" else number_text c

-- the name of the call, and its view
abbrev pub call_text : Call → List ℕ
call_text Call.OpenView = codes " open"
call_text (Call.CloseView v) = codes " close" ++ view_text v
call_text (Call.Put v pairs) = codes " put" ++ view_text v
call_text (Call.Get v cid) = codes " get" ++ view_text v
call_text (Call.Has v cid) = codes " has" ++ view_text v
call_text (Call.Size v cid) = codes " size" ++ view_text v
call_text (Call.SetHead cids) = codes " head"
call_text Call.Info = codes " info"

abbrev pub view_reply_text : ViewReply → List ℕ
view_reply_text (ViewReply.Opened n) = codes "opened" ++ numbers_text (n ∷ [])
view_reply_text ViewReply.TooManyViews = codes "too-many-views"

abbrev pub close_reply_text : CloseReply → List ℕ
close_reply_text CloseReply.Closed = codes "closed"
close_reply_text CloseReply.BadView = codes "bad-view"

abbrev pub put_reply_text : PutReply → List ℕ
put_reply_text PutReply.BadView = codes "bad-view"
put_reply_text (PutReply.TooMany n) = codes "too-many" ++ numbers_text (n ∷ [])
put_reply_text (PutReply.TooBig n) = codes "too-big" ++ numbers_text (n ∷ [])
put_reply_text (PutReply.TooLarge i) = codes "too-large" ++ numbers_text (i ∷ [])
put_reply_text (PutReply.UnknownHash i) = codes "unknown-hash" ++ numbers_text (i ∷ [])
put_reply_text (PutReply.Malformed i kind at) = codes "malformed" ++ numbers_text (i ∷ number_of kind ∷ at ∷ [])
put_reply_text (PutReply.Mismatch i) = codes "mismatch" ++ numbers_text (i ∷ [])
put_reply_text PutReply.NoMemory = codes "no-memory"
put_reply_text (PutReply.TableFull rows) = codes "table-full" ++ numbers_text (rows ∷ [])
put_reply_text (PutReply.LogFull file need room) = codes "log-full" ++ numbers_text (file ∷ need ∷ room ∷ [])
put_reply_text PutReply.DiskFault = codes "fault"
put_reply_text (PutReply.Stored new) = codes "stored" ++ numbers_text (new ∷ [])

abbrev pub get_reply_text : GetReply → List ℕ
get_reply_text GetReply.BadView = codes "bad-view"
get_reply_text GetReply.NotFound = codes "not-found"
get_reply_text GetReply.NoMemory = codes "no-memory"
get_reply_text GetReply.DiskFault = codes "fault"
get_reply_text (GetReply.Found block) = codes "found " ++ bytes_text block

abbrev pub has_reply_text : HasReply → List ℕ
has_reply_text HasReply.BadView = codes "bad-view"
has_reply_text HasReply.No = codes "no"
has_reply_text HasReply.Yes = codes "yes"

abbrev pub size_reply_text : SizeReply → List ℕ
size_reply_text SizeReply.BadView = codes "bad-view"
size_reply_text SizeReply.NotFound = codes "not-found"
size_reply_text (SizeReply.Size n) = codes "size" ++ numbers_text (n ∷ [])

abbrev pub head_reply_text : HeadReply → List ℕ
head_reply_text HeadReply.Empty = codes "tipset-empty"
head_reply_text (HeadReply.TooMany n) = codes "tipset-too-many" ++ numbers_text (n ∷ [])
head_reply_text (HeadReply.Repeated i) = codes "tipset-repeated" ++ numbers_text (i ∷ [])
head_reply_text (HeadReply.Absent i) = codes "absent" ++ numbers_text (i ∷ [])
head_reply_text HeadReply.NoMemory = codes "no-memory"
head_reply_text (HeadReply.NotHeader i) = codes "tipset-not-header" ++ numbers_text (i ∷ [])
head_reply_text (HeadReply.HeightDiffers i) = codes "tipset-height" ++ numbers_text (i ∷ [])
head_reply_text (HeadReply.ParentsDiffer i) = codes "tipset-parents" ++ numbers_text (i ∷ [])
head_reply_text (HeadReply.LogFull file need room) = codes "log-full" ++ numbers_text (file ∷ need ∷ room ∷ [])
head_reply_text HeadReply.DiskFault = codes "fault"
head_reply_text (HeadReply.Set height) = codes "head" ++ numbers_text (height ∷ [])

-- the height of a head, if one was set
abbrev pub height_text : Option ℕ → List ℕ
height_text None = codes " -"
height_text (Some height) = number_text height

-- a flag as a number
abbrev pub flag_number : Bool → ℕ
flag_number flag = if flag then 1 else 0

-- the counts of a store; of the settings nothing
abbrev pub info_text : Info → List ℕ
info_text i =
    codes "info height" ++ (height_text i.height ++ (named_text (codes " base") i.base ++ (named_text (codes " ended") i.ended ++ (named_text (codes " hot") i.hot ++ (named_text (codes " kept") i.kept ++ (named_text (codes " views") i.views ++ (named_text (codes " running") (flag_number i.running) ++ named_text (codes " due") (flag_number i.due))))))))

abbrev pub mode_text : Mode → List ℕ
mode_text Mode.Discard = codes "discard"
mode_text Mode.Universal = codes "universal"

-- the settings of a store
abbrev pub settings_text : Config → List ℕ
settings_text c =
    codes "mode " ++ (mode_text c.mode ++ (named_text (codes " depth") c.depth ++ (named_text (codes " threshold") c.threshold ++ (named_text (codes " batch") c.batch ++ (named_text (codes " rows") c.rows ++ named_text (codes " limit") c.limit)))))

abbrev pub answer_text : Answer → List ℕ
answer_text (Answer.View r) = view_reply_text r
answer_text (Answer.Close r) = close_reply_text r
answer_text (Answer.Put r) = put_reply_text r
answer_text (Answer.Get r) = get_reply_text r
answer_text (Answer.Has r) = has_reply_text r
answer_text (Answer.Size r) = size_reply_text r
answer_text (Answer.Head r) = head_reply_text r
answer_text (Answer.Info r) = info_text r

-- the line of the entry at this place
unfoldable pub entry_text : ℕ → Entry → List ℕ
entry_text place e =
    decimal place ++ (client_text e.client ++ (number_text e.line ++ (call_text e.call ++ (codes " = " ++ (answer_text e.answer ++ codes "\n")))))

-- the lines of entries that stand from this place on
abbrev pub text_from : ℕ → List Entry → List ℕ
text_from place [] = []
text_from place (e ∷ h) = entry_text place e ++ text_from (place + 1) h

abbrev pub text : List Entry → List ℕ
text h = text_from 1 h
