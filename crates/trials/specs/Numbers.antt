-- Values made from numbers in order.
use Rattle.std.specs.Prelude.{ℕ, ◌+◌, List, [], ◌∷◌, ℤ, Option}
use Rattle.arith.specs.Sums.{part, listed}
use Rattle.dynamics.specs.declared.channel.Channel.{Channel}
use Rattle.dynamics.specs.declared.refusal.Refusal.{Refusal}
use Rattle.dynamics.specs.Refusals.{number, place, model_refusal, start_refusal}

-- the number and place of a refusal
abbrev pub told : Refusal → ℕ × ℕ
told e = (number e, place e)

-- four numbers from a place on
abbrev pub four_of : List ℤ → ℕ → List ℤ
four_of numbers k = listed 4 (λ i. part numbers (k + i))

-- a model's matrix, and the channel whose numbers begin after the first k
abbrev pub matrix_of : List ℤ → List (List ℤ)
matrix_of numbers = four_of numbers 0 ∷ (four_of numbers 4 ∷ (four_of numbers 8 ∷ (four_of numbers 12 ∷ [])))

abbrev pub channel_of : List ℤ → ℕ → Channel
channel_of numbers k = record { gains = four_of numbers k; centre = part numbers (k + 4); radius = part numbers (k + 5) }

-- what is told of a model of 28 numbers, and of a start of eight, if it is refused
unfoldable pub model_told : List ℤ → Option (ℕ × ℕ)
model_told numbers = model_refusal (matrix_of numbers) (channel_of numbers 16) (channel_of numbers 22)

unfoldable pub start_told : List ℤ → Option (ℕ × ℕ)
start_told z = start_refusal (part z 0 ∷ (part z 2 ∷ (part z 4 ∷ (part z 6 ∷ [])))) (part z 1 ∷ (part z 3 ∷ (part z 5 ∷ (part z 7 ∷ []))))
