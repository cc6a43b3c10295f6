-- Which refusal the numbers of a value give: its number, and the place from 1 of the number at fault.
-- All ranges come before any sum.
use Rattle.std.specs.Prelude.{ℕ, zero, suc, ◌+◌, ◌*◌, ◌^◌, Bool, cond, List, [], ◌∷◌, ◌++◌, ℤ, pos, Some, None, Option}
use Rattle.arith.specs.Sums.{part}
use Rattle.dynamics.specs.declared.channel.Channel.{Channel}
use Rattle.dynamics.specs.declared.ranges.Ranged.{Ranged}
use Rattle.dynamics.specs.declared.refusal.Refusal.{Refusal}
use Rattle.dynamics.specs.declared.refusal.Refusal.TheVariants.{OutOfRange, TooLarge}
use Rattle.dynamics.specs.Ranges.{within, up_to, first_outside, too_large, row_numbers, matrix_rows, joined}

-- 5: out of range; 7: centre and radius together too large
abbrev pub number : Refusal → ℕ
number (OutOfRange p) = 5
number (TooLarge p) = 7

abbrev pub place : Refusal → ℕ
place (OutOfRange p) = p
place (TooLarge p) = p

-- ranges first, then what the sums give
abbrev pub ranged : Option ℕ → Option (ℕ × ℕ) → Option (ℕ × ℕ)
ranged (Some p) sums = Some (5, p)
ranged None sums = sums

-- a direction's four entries
abbrev pub direction_refusal : List ℤ → Option (ℕ × ℕ)
direction_refusal l = ranged (first_outside 0 (row_numbers l)) None

-- a keep-out's: its direction's entries, then the threshold within ±2^52
abbrev pub keep_out_refusal : List ℤ → ℤ → Option (ℕ × ℕ)
keep_out_refusal l t = ranged (first_outside 0 (row_numbers l ++ (within (pos (2 ^ 52)) t ∷ []))) None

-- the first of the n indices from k on that passes the test
unfoldable pub first_passing : ℕ → ℕ → (ℕ → Bool) → Option ℕ
first_passing k zero t = None
first_passing k (suc n) t = cond (t k) (Some k) (first_passing (k + 1) n t)

-- a start's eight numbers p1 w1 .. p4 w4: centres within ±2^30, radii from 0 to 2^30
abbrev pub start_numbers : List ℤ → List ℤ → List Ranged
start_numbers p w =
    within (pos (2 ^ 30)) (part p 0) ∷ (up_to (pos (2 ^ 30)) (part w 0) ∷ (within (pos (2 ^ 30)) (part p 1) ∷ (up_to (pos (2 ^ 30)) (part w 1)
    ∷ (within (pos (2 ^ 30)) (part p 2) ∷ (up_to (pos (2 ^ 30)) (part w 2) ∷ (within (pos (2 ^ 30)) (part p 3) ∷ (up_to (pos (2 ^ 30)) (part w 3) ∷ [])))))))

-- the first part, from 0, where |p| + w is over 2^30
abbrev pub wide_start : List ℤ → List ℤ → Option ℕ
wide_start p w = first_passing 0 4 (λ i. too_large (2 ^ 30) (part p i) (part w i))

-- the radius of part i, from 0, stands at place 2 i + 2
abbrev pub start_sums : Option ℕ → Option (ℕ × ℕ)
start_sums (Some i) = Some (7, 2 * i + 2)
start_sums None = None

abbrev pub start_refusal : List ℤ → List ℤ → Option (ℕ × ℕ)
start_refusal p w = ranged (first_outside 0 (start_numbers p w)) (start_sums (wide_start p w))

-- a channel's six numbers: four gains within ±2^20, the centre within ±2^24, the radius from 0 to 2^24
abbrev pub channel_numbers : Channel → List Ranged
channel_numbers c = row_numbers c.gains ++ (within (pos (2 ^ 24)) c.centre ∷ (up_to (pos (2 ^ 24)) c.radius ∷ []))

-- a model's 28 numbers: the rows of A, then the two channels
abbrev pub model_numbers : List (List ℤ) → Channel → Channel → List Ranged
model_numbers a c d = joined (matrix_rows a) ++ (channel_numbers c ++ channel_numbers d)

-- the radii stand at 22 and 28
abbrev pub model_sums : Channel → Channel → Option (ℕ × ℕ)
model_sums c d = cond (too_large (2 ^ 24) c.centre c.radius) (Some (7, 22)) (cond (too_large (2 ^ 24) d.centre d.radius) (Some (7, 28)) None)

abbrev pub model_refusal : List (List ℤ) → Channel → Channel → Option (ℕ × ℕ)
model_refusal a c d = ranged (first_outside 0 (model_numbers a c d)) (model_sums c d)

-- B by parts: row i has what each channel adds to part i
abbrev pub by_parts : List ℤ → List ℤ → List (List ℤ)
by_parts b c =
    (part b 0 ∷ (part c 0 ∷ [])) ∷ ((part b 1 ∷ (part c 1 ∷ [])) ∷ ((part b 2 ∷ (part c 2 ∷ [])) ∷ ((part b 3 ∷ (part c 3 ∷ [])) ∷ [])))
