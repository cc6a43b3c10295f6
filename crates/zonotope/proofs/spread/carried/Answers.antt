use Rattle.std.proofs.Common.{pos, Some, ap, sym, ◌∙◌, rules}
use Rattle.std.specs.Option.{option_map}
use Rattle.dynamics.specs.Values.{loop}
use Rattle.zonotope.specs.Forms.{parts_of}
use Rattle.zonotope.specs.Spread.{spread_advanced, advanced_part}
use Rattle.arith.proofs.FromFn.{from_fn_listed}
use Rattle.zonotope.proofs.spread.carried.Goals as goal

pub returns : goal.returns
unfolding spread_advanced
returns c =
    let a = loop c.args.model.now in
    let n = c.args.axis.parts in
    ap Some (from_fn_listed (λ i. pos (advanced_part a n c.in_ok-spread.spread.parts i)) 4 _ _ (pos 0) (λ i y q l h. search rules) c.from_fn.ensures.items)
    ∙ ap (λ o. option_map (spread_advanced a n) (parts_of o)) (sym c.in_ok-spread.was)
