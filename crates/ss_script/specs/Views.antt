-- The store's numbers of the clients' views. A script names a view by the client's own count of its `open` lines, from 0. The
-- numbers of a client's views are a list: an `open` adds one at its end, `NO_VIEW` where it was refused, and a `close` that was
-- answered so puts `NO_VIEW` in the place of the one that it closed. A client's lines change its own list alone.
use Rattle.std.specs.Prelude.{ℕ, List, [], ◌∷◌, ◌++◌, Option, Some, None, replicate, slice_index_or, slice_set}
use Rattle.ss_model.specs.{declared.TheConstants.NO_VIEW, declared.call.{Call.Call, Answer.Answer, ViewReply.ViewReply, CloseReply.CloseReply}}
use Rattle.ss_script.specs.{declared.TheConstants.CLIENTS, declared.call.ScriptCall.ScriptCall, declared.line.Line.Line}

-- the views of all clients before the first line, by the clients' numbers
abbrev pub no_views : List (List ℕ)
no_views = replicate CLIENTS []

-- the views of a client, of those of all clients
abbrev pub client_views : List (List ℕ) → ℕ → List ℕ
client_views views client = slice_index_or views client []

-- the store's number of the client's view k, of whose views these are the numbers
abbrev pub view_of : List ℕ → ℕ → ℕ
view_of views k = slice_index_or views k NO_VIEW

-- the call of a script line, its view resolved
abbrev pub resolved : List ℕ → ScriptCall → Call
resolved views ScriptCall.OpenView = Call.OpenView
resolved views (ScriptCall.CloseView k) = Call.CloseView (view_of views k)
resolved views (ScriptCall.Put k pairs) = Call.Put (view_of views k) pairs
resolved views (ScriptCall.Get k cid) = Call.Get (view_of views k) cid
resolved views (ScriptCall.Has k cid) = Call.Has (view_of views k) cid
resolved views (ScriptCall.Size k cid) = Call.Size (view_of views k) cid
resolved views (ScriptCall.SetHead cids) = Call.SetHead cids
resolved views ScriptCall.Info = Call.Info

-- the client's view that a call asks to close
abbrev pub closing_view : ScriptCall → Option ℕ
closing_view (ScriptCall.CloseView k) = Some k
closing_view _ = None

-- the views of a client after an answer to a call that asked to close this view of its, if any
abbrev pub views_after : List ℕ → Option ℕ → Answer → List ℕ
views_after views closing (Answer.View (ViewReply.Opened n)) = views ++ n ∷ []
views_after views closing (Answer.View ViewReply.TooManyViews) = views ++ NO_VIEW ∷ []
views_after views (Some k) (Answer.Close CloseReply.Closed) = slice_set views k NO_VIEW
views_after views closing _ = views

-- the views of all clients after such an answer to this client
abbrev pub after_answer : List (List ℕ) → ℕ → Option ℕ → Answer → List (List ℕ)
after_answer views client closing answer = slice_set views client (views_after (client_views views client) closing answer)

-- the views of all clients after a line that was answered so
abbrev pub after_line : List (List ℕ) → Line → Answer → List (List ℕ)
after_line views line answer = after_answer views line.client (closing_view line.call) answer
