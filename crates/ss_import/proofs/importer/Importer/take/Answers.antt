use Rattle.std.proofs.Common.{◌≡◌, List, [], ◌∷◌, ◌++◌, refl, sym, ap, ◌∙◌, subst, arith}
use Rattle.std.proofs.lemmas.Result.{err_from_is_err_and}
use Rattle.std.proofs.lemmas.List.{map-append}
use Rattle.ss_car.specs.Car.{Section}
use Rattle.ss_core.specs.Replies.{held_put_bytes}
use Rattle.ss_import.specs.Import.{pair_of}
use Rattle.ss_import.specs.Steps.{Putting, Holds}
use Rattle.ss_import.proofs.Putting.{takes_ended, wanting, one_more, regrouped}
use Rattle.ss_import.proofs.importer.Importer.take.Goals as goal
use Rattle.ss_import.proofs.importer.Importer.take.Goals.{then-not-takes+in_ok-put-2, else-not-takes}

pub returns-in_err-put-clause-takes : goal.returns-in_err-put-clause-takes
returns-in_err-put-clause-takes g c = λ was sections left p holds.
    let q = err_from_is_err_and c.from_residual.result c.from_residual.ensures.1 in
    rw (q.1, q.2) (takes_ended was c.put.new.self sections (record { offset = c.args.offset; cid = c.args.cid; block = c.args.block.now }) c.args.end _ (c.in_err-put.ensures.puts was sections left p holds))

pub returns-in_err-put-2-clause-takes : goal.returns-in_err-put-2-clause-takes
returns-in_err-put-2-clause-takes g c = λ was sections left p holds.
    let q = err_from_is_err_and c.from_residual-in_err-put-2.result c.from_residual-in_err-put-2.ensures.1 in
    rw (q.1, q.2) (takes_ended was c.put-then-not-takes.new.self sections (record { offset = c.args.offset; cid = c.args.cid; block = c.args.block.now }) c.args.end _ (c.in_err-put-2.ensures.puts was sections left p holds))

pub add-requires-clause-put_bytes : goal.add-requires-clause-put_bytes
add-requires-clause-put_bytes g c = elim c.if-not-takes.branch [
  | then-not-takes+in_ok-put-2 w ↦
      let ready = w.in_ok-put-2.ensures.continues in
      let three : w.put-then-not-takes.new.self.group.put_bytes ≡ 3 = ready.put_bytes ∙ ap (held_put_bytes w.put-then-not-takes.new.self.core) w.in_ok-put-2.ensures.empty.parcel in
      omega (arith, three, ap (λ i. i.group.put_bytes) w.self-is, c.put_bytes-put_bytes.ensures.few, c.requires.small)
  | else-not-takes w ↦ omega (arith, ap (λ i. i.group.put_bytes) w.self-is, c.put_bytes-put_bytes.ensures.few, c.requires.small, c.takes.ensures.0)
]

pub returns-in_err-add-clause-takes : goal.returns-in_err-add-clause-takes
returns-in_err-add-clause-takes g c = λ was sections left p holds.
    let q = err_from_is_err_and c.from_residual-in_err-add.result c.from_residual-in_err-add.ensures.1 in
    let state : (l : List Section) × Putting {disk = g.D.Disk} was c.if-not-takes.self sections l × Holds c.if-not-takes.self.group l = elim c.if-not-takes.branch [
      | then-not-takes+in_ok-put-2 w ↦ ([], subst (λ i. Putting {disk = g.D.Disk} was i sections []) (sym w.self-is) (w.in_ok-put-2.ensures.puts was sections left p holds), subst (λ i. Holds i.group []) (sym w.self-is) w.in_ok-put-2.ensures.empty)
      | else-not-takes w ↦ (left, subst (λ i. Putting {disk = g.D.Disk} was i sections left) (sym w.self-is) p, subst (λ i. Holds i.group left) (sym w.self-is) holds)
    ] in
    rw (q.1, q.2) (wanting was _ sections state.0 (regrouped was c.if-not-takes.self (record c.if-not-takes.self { group = c.add.new.self }) sections state.0 refl refl refl state.1))

pub returns-clause-takes : goal.returns-clause-takes
returns-clause-takes g c = λ was sections left p holds.
    let s : Section = record { offset = c.args.offset; cid = c.args.cid; block = c.args.block.now } in
    let state : (l : List Section) × Putting {disk = g.D.Disk} was c.if-not-takes.self sections l × Holds c.if-not-takes.self.group l = elim c.if-not-takes.branch [
      | then-not-takes+in_ok-put-2 w ↦ ([], subst (λ i. Putting {disk = g.D.Disk} was i sections []) (sym w.self-is) (w.in_ok-put-2.ensures.puts was sections left p holds), subst (λ i. Holds i.group []) (sym w.self-is) w.in_ok-put-2.ensures.empty)
      | else-not-takes w ↦ (left, subst (λ i. Putting {disk = g.D.Disk} was i sections left) (sym w.self-is) p, subst (λ i. Holds i.group left) (sym w.self-is) holds)
    ] in (
      state.0 ++ s ∷ [],
      one_more was c.if-not-takes.self _ sections state.0 s refl refl refl state.1,
      record {
        parcel = c.in_ok-add.ensures.parcel ∙ ap (λ b. c.if-not-takes.self.group.parcel ++ (c.args.cid, b) ∷ []) c.as_slice.ensures.value ∙ ap (λ l. l ++ (c.args.cid, c.args.block.now) ∷ []) state.2.parcel ∙ sym (map-append pair_of state.0 (s ∷ []));
        offsets = c.in_ok-add.ensures.offsets ∙ ap (λ l. l ++ c.args.offset ∷ []) state.2.offsets ∙ sym (map-append (λ (t : Section). t.offset) state.0 (s ∷ []));
      },
    )
