use Rattle.std.proofs.Common.{◌≡◌, ℕ, ◌^◌, Bool, false, List, [], ◌∷◌, ℤ, Some, None, Option, refl, sym, ap, ◌∙◌, subst, ap₂, w64, SFits, rules}
use Rattle.std.proofs.lemmas.Bool.{cond-true, cond-false}
use Rattle.std.proofs.lemmas.Result.{err_from_is_err_and}
use Rattle.arith.proofs.Bits.{back, back_is}
use Rattle.dynamics.specs.declared.channel.Channel.{Channel}
use Rattle.dynamics.specs.declared.ranges.Ranged.{Ranged}
use Rattle.dynamics.specs.declared.refusal.Refusal.{Refusal}
use Rattle.dynamics.specs.Ranges.{first_outside, matrix_rows, joined, too_large}
use Rattle.dynamics.specs.Refusals.{number, place, channel_numbers, ranged, model_sums, model_refusal, by_parts}
use Rattle.dynamics.specs.Limits.{MatrixLimits, GustLimits, ModelLimits}
use Rattle.dynamics.proofs.Checks.{at_once, large_passed, model_in_matrix, model_in_first, model_in_second, model_limits, model_exact}
use Rattle.dynamics.proofs.model.Model.new.Goals as goal

-- what was told of a channel's numbers, of which a list was made
told : (k : ℕ) (c : Channel) {ns : List Ranged} {q : Option (ℕ × ℕ)} → ns ≡ channel_numbers c → ranged (first_outside k ns) None ≡ q → ranged (first_outside k (channel_numbers c)) None ≡ q
told k c e h = ap (λ ns. ranged (first_outside k ns) None) (sym e) ∙ h

good : (k : ℕ) (c : Channel) {ns : List Ranged} → ns ≡ channel_numbers c → first_outside k ns ≡ None → first_outside k (channel_numbers c) ≡ None
good k c e h = ap (first_outside k) (sym e) ∙ h

-- two numbers that were put into a list
passed : (a b : ℤ) → SFits w64 a → SFits w64 b → ◌≡◌ {A = List ℤ} (back a ∷ (back b ∷ [])) (a ∷ (b ∷ []))
passed a b f g = ap₂ (λ (x y : ℤ). x ∷ (y ∷ [])) (back_is a f) (back_is b g)

gusts_passed : {m m' r r' : List ℤ} → m' ≡ m → r' ≡ r → GustLimits m r → GustLimits m' r'
gusts_passed e f h = rw (e, f) h

pub returns-in_err-check_matrix : goal.returns-in_err-check_matrix
returns-in_err-check_matrix c =
    let p = err_from_is_err_and c.from_residual.result c.from_residual.ensures.1 in
    record {
      value = rw (p.1, p.2) (model_in_matrix c.args.matrix c.args.first c.args.second _ c.in_err-check_matrix.ensures);
      limits = model_exact c.args.matrix c.args.first c.args.second;
    }

pub returns-in_err-check_ranges : goal.returns-in_err-check_ranges
returns-in_err-check_ranges c =
    let r = c.from_residual-in_err-check_ranges in
    let p = err_from_is_err_and r.result r.ensures.1 in
    record {
      value = rw (p.1, p.2) (model_in_first c.args.matrix c.args.first c.args.second _ c.in_ok-check_matrix.ensures (told 16 c.args.first c.channel_numbers.ensures c.in_err-check_ranges.ensures));
      limits = model_exact c.args.matrix c.args.first c.args.second;
    }

pub returns-in_err-check_ranges-2 : goal.returns-in_err-check_ranges-2
returns-in_err-check_ranges-2 c =
    let r = c.from_residual-in_err-check_ranges-2 in
    let p = err_from_is_err_and r.result r.ensures.1 in
    let e = model_in_second c.args.matrix c.args.first c.args.second _ c.in_ok-check_matrix.ensures (good 16 c.args.first c.channel_numbers.ensures c.in_ok-check_ranges.ensures) refl in
    record {
      value = rw (p.1, p.2) (e ∙ at_once _ _ _ (told 22 c.args.second c.channel_numbers-2.ensures c.in_err-check_ranges-2.ensures));
      limits = model_exact c.args.matrix c.args.first c.args.second;
    }

module _ (a : List (List ℤ)) (c d : Channel) {ns ms : List Ranged} (m : first_outside 0 (joined (matrix_rows a)) ≡ None) (e : ns ≡ channel_numbers c) (f : first_outside 16 ns ≡ None)
    (g : ms ≡ channel_numbers d) (h : first_outside 22 ms ≡ None) where
  -- every number is within its range
  in_ranges : model_refusal a c d ≡ model_sums c d
  in_ranges = model_in_second a c d None m (good 16 c e f) (good 22 d g h)

  limits_of : too_large (2 ^ 24) c.centre c.radius ≡ false → too_large (2 ^ 24) d.centre d.radius ≡ false
      → ModelLimits a (by_parts c.gains d.gains) (c.centre ∷ (d.centre ∷ [])) (c.radius ∷ (d.radius ∷ []))
  limits_of = model_limits a c d m (good 16 c e f) (good 22 d g h)

-- a sum that was looked at
large : (c : Channel) {b : Bool} → SFits w64 c.centre → SFits w64 c.radius → too_large (2 ^ 24) (back c.centre) (back c.radius) ≡ b → too_large (2 ^ 24) c.centre c.radius ≡ b
large c f g e = large_passed (2 ^ 24) c.centre c.radius f g (sym e)

pub returns-in_err-check_sum : goal.returns-in_err-check_sum
returns-in_err-check_sum c =
    let r = c.from_residual-in_err-check_sum in
    let p = err_from_is_err_and r.result r.ensures.1 in
    let h = c.in_err-check_sum.ensures in
    let e = in_ranges c.args.matrix c.args.first c.args.second c.in_ok-check_matrix.ensures c.channel_numbers.ensures c.in_ok-check_ranges.ensures c.channel_numbers-2.ensures c.in_ok-check_ranges-2.ensures in
    record {
      value = rw (p.1, p.2) (e ∙ cond-true _ _ _ (large c.args.first (search rules) (search rules) h.0) ∙ ap (λ (q : Refusal). Some (number q, place q)) (sym h.1));
      limits = model_exact c.args.matrix c.args.first c.args.second;
    }

pub returns-in_err-check_sum-2 : goal.returns-in_err-check_sum-2
returns-in_err-check_sum-2 c =
    let r = c.from_residual-in_err-check_sum-2 in
    let p = err_from_is_err_and r.result r.ensures.1 in
    let h = c.in_err-check_sum-2.ensures in
    let e = in_ranges c.args.matrix c.args.first c.args.second c.in_ok-check_matrix.ensures c.channel_numbers.ensures c.in_ok-check_ranges.ensures c.channel_numbers-2.ensures c.in_ok-check_ranges-2.ensures in
    record {
      value = rw (p.1, p.2) (e ∙ cond-false _ _ _ (large c.args.first (search rules) (search rules) c.in_ok-check_sum.ensures) ∙ cond-true _ _ _ (large c.args.second (search rules) (search rules) h.0) ∙ ap (λ (q : Refusal). Some (number q, place q)) (sym h.1));
      limits = model_exact c.args.matrix c.args.first c.args.second;
    }

pub invariant_of-result : goal.invariant_of-result
invariant_of-result c =
    let t = limits_of c.args.matrix c.args.first c.args.second c.in_ok-check_matrix.ensures c.channel_numbers.ensures c.in_ok-check_ranges.ensures c.channel_numbers-2.ensures c.in_ok-check_ranges-2.ensures
    (large c.args.first (search rules) (search rules) c.in_ok-check_sum.ensures) (large c.args.second (search rules) (search rules) c.in_ok-check_sum-2.ensures) in
    let m = passed c.args.first.centre c.args.second.centre (search rules) (search rules) in
    let r = passed c.args.first.radius c.args.second.radius (search rules) (search rules) in
    record { entered = t.0; gained = subst (MatrixLimits 2) (sym c.by_parts.ensures) t.1; calm = gusts_passed m r t.2 }

pub returns : goal.returns
returns c =
    let e = in_ranges c.args.matrix c.args.first c.args.second c.in_ok-check_matrix.ensures c.channel_numbers.ensures c.in_ok-check_ranges.ensures c.channel_numbers-2.ensures c.in_ok-check_ranges-2.ensures in
    record {
      value = (
        e ∙ cond-false _ _ _ (large c.args.first (search rules) (search rules) c.in_ok-check_sum.ensures) ∙ cond-false _ _ _ (large c.args.second (search rules) (search rules) c.in_ok-check_sum-2.ensures),
        refl,
        c.by_parts.ensures,
        passed c.args.first.centre c.args.second.centre (search rules) (search rules),
        passed c.args.first.radius c.args.second.radius (search rules) (search rules),
      );
      limits = model_exact c.args.matrix c.args.first c.args.second;
    }
