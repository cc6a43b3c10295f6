use Rattle.std.proofs.Common.{◌≡◌, ℕ, ◌+◌, ◌*◌, ◌^◌, ◌<◌, Bool, List, [], ◌++◌, get_or, drop, ℤ, pos, sym, ap, ◌∙◌, arith, w64, SFits, rules}
use Rattle.arith.specs.Sums.{entry}
use Rattle.arith.proofs.Bits.{back, back_is}
use Rattle.dynamics.specs.declared.ranges.Ranged.{Ranged}
use Rattle.dynamics.specs.Ranges.{within, outside, first_outside, matrix_rows, joined}
use Rattle.dynamics.proofs.Places.{nothing, number_good, number_bad, row_begins, rows_end, row_length, cell_number}
use Rattle.dynamics.proofs.ranges.first_outside_matrix.Goals as goal

-- the number that was looked at is the one in row i and column j
looked : (a : List (List ℤ)) (i j : ℕ) → i < 4 → j < 4 → SFits w64 (entry a i j) → (r : Ranged) → r ≡ within (pos (2 ^ 20)) (back (entry a i j)) → (b : Bool) → b ≡ outside r
    → outside (get_or (get_or (matrix_rows a) i []) j nothing) ≡ b
looked a i j h k f r e b t = ap outside (cell_number a i j h k ∙ ap (within (pos (2 ^ 20))) (sym (back_is (entry a i j) f)) ∙ sym e) ∙ sym t

pub loop-j-init : goal.loop-j-init
loop-j-init c =
    let g = matrix_rows c.args.matrix in
    let e : 4 * c.rows.i + 0 ≡ 4 * c.rows.i = omega arith in (
      c.rows.invariant.0,
      ap (λ k. first_outside k (get_or g c.rows.i [] ++ joined (drop (c.rows.i + 1) g))) e
          ∙ sym (row_begins g c.rows.i (4 * c.rows.i) c.rows-test.true)
          ∙ c.rows.invariant.1,
    )

pub loop-j-preserved : goal.loop-j-preserved
loop-j-preserved c =
    let a = c.args.matrix in
    let g = matrix_rows a in
    let i = c.rows.i in
    let j = c.loop-j.j in
    let n = row_length a i c.rows-test.true in
    let f : SFits w64 (entry a i j) = search rules in
    let e = looked a i j c.rows-test.true c.loop-j-test.true f c.within.result c.within.ensures _ c.if-is_outside.ensures in
    let q : 4 * i + (j + 1) ≡ 4 * i + j + 1 = omega arith in (
      c.loop-j.invariant.0,
      ap (λ k. first_outside k (drop (j + 1) (get_or g i []) ++ joined (drop (i + 1) g))) q
          ∙ sym (number_good (get_or g i []) (joined (drop (i + 1) g)) j (4 * i + j) (omega arith) e)
          ∙ c.loop-j.invariant.1,
    )

pub returns-after-rows : goal.returns-after-rows
returns-after-rows c = c.rows.invariant.0 ∙ sym (rows_end (matrix_rows c.args.matrix) c.rows.i (4 * c.rows.i) c.rows-test.false) ∙ c.rows.invariant.1

pub returns-then-is_outside : goal.returns-then-is_outside
returns-then-is_outside c =
    let a = c.args.matrix in
    let g = matrix_rows a in
    let i = c.rows.i in
    let j = c.loop-j.j in
    let n = row_length a i c.rows-test.true in
    let f : SFits w64 (entry a i j) = search rules in
    let e = looked a i j c.rows-test.true c.loop-j-test.true f c.within.result c.within.ensures _ c.if-is_outside.ensures in
    sym (number_bad (get_or g i []) (joined (drop (i + 1) g)) j (4 * i + j) (omega arith) e) ∙ c.loop-j.invariant.1
