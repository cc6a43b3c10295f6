-- The values of a plan that was read are those of the plain plan that its text spells.
use Rattle.std.proofs.Common.{◌≡◌, ℕ, ◌^◌, ◌≤◌, List, [], ◌∷◌, map, nat_abs, sym, refl, subst, ap₂}
use mathlib.Core.HLevel.{is_prop→PathP}
use denote.Struct.Props.{props}
use Rattle.dynamics.specs.declared.keep_out.KeepOut.{KeepOut}
use Rattle.dynamics.specs.declared.model.Model.{Model}
use Rattle.dynamics.specs.Limits.{MatrixLimits, GustLimits}
use Rattle.dynamics.proofs.Same.{direction_same, start_same}
use Rattle.plan.specs.declared.keep.Keep.{Keep}
use Rattle.plan.specs.declared.plan.Plan.{Plan}
use Rattle.plan.specs.Keeps.{kept, kept_list}
use Rattle.plan.specs.Plans.{Sheet, sheet}
use Rattle.plan.specs.Spelling.{KeptSound, AllSound, Sound}
use Rattle.report.specs.Tasks.{Labelled, labelled, all_labelled, task, labelled_in, plan_task}

-- values with the same numbers are the same
model_same : (a b : Model) → a.matrix ≡ b.matrix → a.gains ≡ b.gains → a.centres ≡ b.centres → a.radii ≡ b.radii → a ≡ b
model_same a b p q u v = λ i. record {
  matrix = p i;
  gains = q i;
  centres = u i;
  radii = v i;
  entered = is_prop→PathP (λ j. MatrixLimits 4 (p j)) (λ j. hlevel props) a.entered b.entered i;
  gained = is_prop→PathP (λ j. MatrixLimits 2 (q j)) (λ j. hlevel props) a.gained b.gained i;
  calm = is_prop→PathP (λ j. GustLimits (u j) (v j)) (λ j. hlevel props) a.calm b.calm i;
}

keep_out_same : (a b : KeepOut) → a.direction ≡ b.direction → a.threshold ≡ b.threshold → a ≡ b
keep_out_same a b p q = λ i. record { direction = p i; threshold = q i; limited = is_prop→PathP (λ j. nat_abs (q j) ≤ 2 ^ 52) (λ j. hlevel props) a.limited b.limited i }

labelled_same : (text : List ℕ) (k : Keep) (h : KeptSound (kept text k)) → labelled (kept text k) h ≡ labelled_in text k
labelled_same text k h =
    let o = (labelled (kept text k) h).keep_out in
    λ i. record { label = (kept text k).label; keep_out = keep_out_same o k.keep_out (direction_same o.direction k.keep_out.direction refl) refl i }

all_same : (text : List ℕ) (ks : List Keep) (h : AllSound (map (kept text) ks)) → all_labelled (map (kept text) ks) h ≡ map (labelled_in text) ks
all_same text [] h = refl
all_same text (k ∷ ks) h = ap₂ (λ (x : Labelled) (xs : List Labelled). x ∷ xs) (labelled_same text k h.0) (all_same text ks h.1)

sheet-task : (text : List ℕ) (p : Plan) (h : Sound (sheet text p)) → task (sheet text p) h ≡ plan_task text p
sheet-task text p h =
    let t = task (sheet text p) h in
    λ i. record {
      model = model_same t.model p.model refl refl refl refl i;
      start = start_same t.start p.start refl refl i;
      keeps = all_same text (kept_list p.keeps) h.keeps i;
      steps = p.steps.count;
    }

pub task_is : (text : List ℕ) (p : Plan) (s : Sheet) (h : Sound s) → s ≡ sheet text p → task s h ≡ plan_task text p
task_is text p s h e = subst (λ (s : Sheet). (h : Sound s) → task s h ≡ plan_task text p) (sym e) (sheet-task text p) h
