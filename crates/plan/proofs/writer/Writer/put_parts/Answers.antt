use Rattle.std.proofs.Common.{◌++◌, sym, refl, ◌∙◌, arith}
use Rattle.std.proofs.lemmas.List.{length-append}
use Rattle.std.proofs.lemmas.Bool.{leb-false}
use Rattle.plan.proofs.Adds.{added-added}
use Rattle.plan.proofs.writer.Writer.put_parts.Goals as goal

pub returns-then-not-has_room : goal.returns-then-not-has_room
returns-then-not-has_room c =
    let head = c.args.head.now in
    let label = c.args.label.now in
    let tail = c.args.tail.now in
    let over = leb-false _ _ (sym c.has_room.ensures ∙ c.if-not-has_room.true) in
    record { lent = refl; line = record { full = omega (arith, over, length-append head (label ++ tail), length-append label tail); same = refl; still = refl } }

pub returns : goal.returns
returns c =
    record {
      lent = c.append-3.ensures.lent ∙ c.append-2.ensures.lent ∙ c.append.ensures.lent;
      line = added-added _ _ c.args.head.now _ _ _ _ _ c.append.ensures.added (added-added _ _ c.args.label.now _ _ c.args.tail.now _ _ c.append-2.ensures.added c.append-3.ensures.added);
    }
