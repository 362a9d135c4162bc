use Rattle.std.proofs.Common.{◌++◌}
use Rattle.std.specs.Prelude.{codes}
use Rattle.std.specs.Fmt.{decimal}
use Rattle.ss_script.specs.Text.{client_text, number_text, call_text, answer_text, entry_text}
use Rattle.ss_script.proofs.Parts.{cut, after}
use Rattle.ss_script.proofs.text.put_entry.Goals as goal

pub returns-in_err-put_decimal : goal.returns-in_err-put_decimal
unfolding entry_text
returns-in_err-put_decimal g c =
    let e = c.args.entry.now in
    cut _ (decimal c.args.place) (client_text e.client ++ (number_text e.line ++ (call_text e.call ++ (codes " = " ++ (answer_text e.answer ++ codes "\n"))))) c.from_residual.ensures.0 c.in_err-put_decimal.ensures

pub returns-in_err-put_client : goal.returns-in_err-put_client
unfolding entry_text
returns-in_err-put_client g c =
    let e = c.args.entry.now in
    after (decimal c.args.place) _ c.in_ok-put_decimal.ensures
    (cut _ (client_text e.client) (number_text e.line ++ (call_text e.call ++ (codes " = " ++ (answer_text e.answer ++ codes "\n")))) c.from_residual-in_err-put_client.ensures.0 c.in_err-put_client.ensures)

pub returns-in_err-put_number : goal.returns-in_err-put_number
unfolding entry_text
returns-in_err-put_number g c =
    let e = c.args.entry.now in
    let number = rw c.from.ensures at c.in_err-put_number.ensures in
    after (decimal c.args.place) _ c.in_ok-put_decimal.ensures
    (after (client_text e.client) _ c.in_ok-put_client.ensures
    (cut _ (number_text e.line) (call_text e.call ++ (codes " = " ++ (answer_text e.answer ++ codes "\n"))) c.from_residual-in_err-put_number.ensures.0 number))

pub returns-in_err-put_call : goal.returns-in_err-put_call
unfolding entry_text
returns-in_err-put_call g c =
    let e = c.args.entry.now in
    let number = rw c.from.ensures at c.in_ok-put_number.ensures in
    after (decimal c.args.place) _ c.in_ok-put_decimal.ensures
    (after (client_text e.client) _ c.in_ok-put_client.ensures
    (after (number_text e.line) _ number
    (cut _ (call_text e.call) (codes " = " ++ (answer_text e.answer ++ codes "\n")) c.from_residual-in_err-put_call.ensures.0 c.in_err-put_call.ensures)))

pub returns-in_err-put : goal.returns-in_err-put
unfolding entry_text
returns-in_err-put g c =
    let e = c.args.entry.now in
    let number = rw c.from.ensures at c.in_ok-put_number.ensures in
    after (decimal c.args.place) _ c.in_ok-put_decimal.ensures
    (after (client_text e.client) _ c.in_ok-put_client.ensures
    (after (number_text e.line) _ number
    (after (call_text e.call) _ c.in_ok-put_call.ensures
    (cut _ (codes " = ") (answer_text e.answer ++ codes "\n") c.from_residual-in_err-put.ensures.0 (record { bytes = c.in_err-put.ensures.bytes; cause = c.in_err-put.ensures.cause })))))

pub returns-in_err-put_answer : goal.returns-in_err-put_answer
unfolding entry_text
returns-in_err-put_answer g c =
    let e = c.args.entry.now in
    let number = rw c.from.ensures at c.in_ok-put_number.ensures in
    after (decimal c.args.place) _ c.in_ok-put_decimal.ensures
    (after (client_text e.client) _ c.in_ok-put_client.ensures
    (after (number_text e.line) _ number
    (after (call_text e.call) _ c.in_ok-put_call.ensures
    (after (codes " = ") _ (record { bytes = c.in_ok-put.ensures.bytes; cause = c.in_ok-put.ensures.cause })
    (cut _ (answer_text e.answer) (codes "\n") c.from_residual-in_err-put_answer.ensures.0 c.in_err-put_answer.ensures)))))

pub returns : goal.returns
unfolding entry_text
returns g c =
    let e = c.args.entry.now in
    let number = rw c.from.ensures at c.in_ok-put_number.ensures in
    after (decimal c.args.place) _ c.in_ok-put_decimal.ensures
    (after (client_text e.client) _ c.in_ok-put_client.ensures
    (after (number_text e.line) _ number
    (after (call_text e.call) _ c.in_ok-put_call.ensures
    (after (codes " = ") _ (record { bytes = c.in_ok-put.ensures.bytes; cause = c.in_ok-put.ensures.cause })
    (after (answer_text e.answer) _ c.in_ok-put_answer.ensures
    (record { bytes = c.put-2.ensures.bytes; cause = c.put-2.ensures.cause }))))))
