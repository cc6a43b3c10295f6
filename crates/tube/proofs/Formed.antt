-- A tube's form is its domain's at the tube's step, and what that says over the zonotope.
use Rattle.std.proofs.Common.{◌≡◌, ℕ, zero, suc, Bool, true, false, cond, ltb, List, [], ◌∷◌, sym, refl, ap, ◌∙◌, subst, add-one}
use Rattle.dynamics.specs.declared.keep_out.KeepOut.{KeepOut}
use Rattle.dynamics.specs.declared.model.Model.{Model}
use Rattle.dynamics.specs.declared.start.Start.{Start}
use Rattle.domains.specs.Meaning.{Meaning}
use Rattle.zonotope.specs.Domain.{Form, zonotope}
use Rattle.zonotope.specs.Tight as exact
use Rattle.zonotope.specs.Laws.{tightness}
use Rattle.tube.specs.declared.call.Call.{Call}
use Rattle.tube.specs.declared.call.Call.TheVariants.{Step, Bound, Finding as Ask}
use Rattle.tube.specs.Calls.{begun, called, after}
use Rattle.tube.specs.Flights.{Flight, stepped}
use Rattle.tube.specs.Promise.{form_at}
use Rattle.tube.specs.Tightness.{TubeTight}

module _ {F : Type 0} (d : Meaning F) (m : Model) (s : Start) (f : F) where
  Formed : Flight F → Type 0
  Formed t = t.form ≡ form_at d m s f t.steps

  called_formed : (t : Flight F) (c : Call) → Formed t → Formed (called d m t c)
  unfolding Formed form_at
  called_formed t (Bound l) e = e
  called_formed t (Ask n) e = e
  called_formed t Step e = go (ltb t.steps 256)
    where
      go : (b : Bool) → (cond b (stepped d m t) t).form ≡ form_at d m s f (cond b (stepped d m t) t).steps
      go true = ap (d.advanced m) e ∙ ap (form_at d m s f) (sym (add-one t.steps))
      go false = e

  ran_formed : (t : Flight F) (cs : List Call) → Formed t → Formed (after d m t cs)
  ran_formed t [] e = e
  ran_formed t (c ∷ cs) e = ran_formed (called d m t c) cs (called_formed t c e)

  pub formed : (ks : List KeepOut) (cs : List Call) → (after d m (begun d s f ks) cs).form ≡ form_at d m s f (after d m (begun d s f ks) cs).steps
  unfolding Formed form_at
  formed ks cs = ran_formed (begun d s f ks) cs refl

-- the zonotope's form after k steps does not depend on the one before the fill
zonotope_at : (m : Model) (s : Start) (f : Form) (k : ℕ) → exact.after m s k ≡ form_at zonotope m s f k
unfolding form_at exact.after
zonotope_at m s f zero = refl
zonotope_at m s f (suc k) = ap (zonotope.advanced m) (zonotope_at m s f k)

pub tube_tight : TubeTight
tube_tight m s f ks cs =
    let t = after zonotope m (begun zonotope s f ks) cs in
    subst (λ (g : Form). exact.Present g (exact.Tight m s t.steps)) (zonotope_at m s f t.steps ∙ sym (formed zonotope m s f ks cs)) (tightness m s t.steps)
