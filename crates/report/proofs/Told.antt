-- The lines that replies give, one by one.
use Rattle.std.proofs.Common.{◌≡◌, ℕ, zero, suc, ◌+◌, ◌*◌, ◌^◌, ◌<◌, ◌≤◌, List, [], ◌∷◌, map, length, get_or, drop, ℤ, nat_abs, None, Option, sym, refl, ap, ◌∙◌, subst, ap₂, ⊎_elim, arith}
use Rattle.std.proofs.lemmas.List.FromFn.{length-map-range_with_len, get_or-map-range_with_len}
use Rattle.std.proofs.lemmas.List.{get_or-drop, get_or_past}
use Rattle.std.proofs.lemmas.Bool.{cases_lt}
use Rattle.std.specs.List.{range_with_len}
use Rattle.domains.specs.Meaning.{Answer}
use Rattle.plan.specs.declared.keep.Keep.{Keep}
use Rattle.plan.specs.Keeps.{spanned}
use Rattle.tube.specs.declared.call.Reply.{Reply}
use Rattle.tube.specs.declared.call.Reply.TheVariants.{Watched}
use Rattle.tube.specs.declared.finding.Finding.{Finding}
use Rattle.report.specs.Lines.{ends, step_text, keep_text}
use Rattle.report.specs.Replies.{finding_in, reply_at, bounds_at, Limited, told_step, told_steps, told_keeps}

-- ---- steps
abbrev Small : Option ℤ → Type 0
Small o = Answer o (λ b. nat_abs b ≤ 2 ^ 52)

-- eight bounds that were read keep the limits of the replies
pub small_bounds : (replies : List Reply) (at : ℕ) → Limited replies → (bounds : List (Option ℤ)) → bounds ≡ map (bounds_at replies at) (range_with_len 0 8) → (a : ℕ) → Small (get_or bounds a None)
small_bounds replies at h bounds e a =
    subst (λ (bs : List (Option ℤ)). Small (get_or bs a None)) (sym e)
    (⊎_elim
    (λ (k : a < 8). subst Small (sym (get_or-map-range_with_len (bounds_at replies at) 0 8 a a None k (omega arith))) (h (at + a)))
    (λ (k : 8 ≤ a). subst Small (sym (get_or_past (map (bounds_at replies at) (range_with_len 0 8)) a None (omega arith))) tt)
    (cases_lt a 8))

pub steps_length : (answers : List Reply) (n : ℕ) → length (told_steps answers n) ≡ n + 1
steps_length answers n = length-map-range_with_len (told_step answers) 0 (n + 1)

pub step_told : (answers : List Reply) (n k : ℕ) → k < n + 1 → (bounds : List (Option ℤ)) → bounds ≡ map (bounds_at answers (9 * k)) (range_with_len 0 8)
    → step_text k (ends (λ a. get_or bounds a None)) ≡ get_or (told_steps answers n) k []
step_told answers n k h bounds e =
    ap (λ (bs : List (Option ℤ)). step_text k (ends (λ a. get_or bs a None))) e ∙ sym (get_or-map-range_with_len (told_step answers) 0 (n + 1) k k [] h (omega arith))

-- ---- keep-outs
pub keeps_length : (text : List ℕ) (ks : List Keep) (found : List Reply) → length (told_keeps text ks found) ≡ length ks
keeps_length text [] found = refl
keeps_length text (k ∷ ks) found = ap suc (keeps_length text ks (drop 1 found))

pub keep_told : (text : List ℕ) (ks : List Keep) (found : List Reply) (n : ℕ) (k : Keep) (label : List ℕ) (f : Finding)
    → n < length ks → k ≡ get_or ks n k → label ≡ spanned text k.label → f ≡ finding_in (reply_at found n) → keep_text label f ≡ get_or (told_keeps text ks found) n []
keep_told text [] found n k label f h e p q = absurd (omega (arith, h))
keep_told text (j ∷ ks) found zero k label f h e p q = ap₂ keep_text (p ∙ ap (λ (i : Keep). spanned text i.label) e) q
keep_told text (j ∷ ks) found (suc n) k label f h e p q =
    keep_told text ks (drop 1 found) n k label f (omega (arith, h)) e p (q ∙ ap finding_in (sym (get_or-drop 1 found n Watched ∙ ap (λ (i : ℕ). get_or found i Watched) one)))
  where
    one : 1 + n ≡ suc n
    one = omega arith
