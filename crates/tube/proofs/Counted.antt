-- The clear rows among the first of a table.
use Rattle.std.proofs.Common.{◌≡◌, ℕ, zero, suc, ◌+◌, ◌≤◌, Bool, true, false, cond, List, length, get_or, count_by, take, sym, refl, ap, ◌∙◌, add-one, arith}
use Rattle.std.proofs.lemmas.List.Sums.{count_by_more_no, count_by_more_yes}
use Rattle.tube.specs.declared.row.Row.{Row}
use Rattle.tube.specs.Flights.{clear_count}
use Rattle.tube.specs.Judging.{is_clear}
use Rattle.tube.specs.Rows.{blank}

abbrev pub clear_row : Row → Bool
clear_row r = is_clear r.finding

pub clear_count_is : (n : ℕ) (rows : List Row) → n ≤ length rows → count_by clear_row (take n rows) ≡ clear_count n rows
unfolding clear_count
clear_count_is zero rows h = refl
clear_count_is (suc n) rows h = go (clear_count_is n rows (omega arith)) (clear_row (get_or rows n blank)) refl
  where
    go : count_by clear_row (take n rows) ≡ clear_count n rows → (b : Bool) → clear_row (get_or rows n blank) ≡ b → count_by clear_row (take (suc n) rows) ≡ cond b (clear_count n rows + 1) (clear_count n rows)
    go before true e = rw (sym (add-one n)) (count_by_more_yes clear_row rows n blank h e ∙ ap (λ (k : ℕ). k + 1) before)
    go before false e = rw (sym (add-one n)) (count_by_more_no clear_row rows n blank h e ∙ before)
