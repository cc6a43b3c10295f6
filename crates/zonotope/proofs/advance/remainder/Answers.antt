use Rattle.std.proofs.Common.{◌+◌, ◌^◌, ◌∙◌, le_trans, arith, lit≤}
use Rattle.dynamics.specs.Rows.{allowance}
use Rattle.zonotope.specs.Shape.{size}
use Rattle.zonotope.proofs.AdvanceLimits.{allowance-size}
use Rattle.zonotope.proofs.Counts.{listed-size, listed_counts, counts_entries, grown_is}
use Rattle.zonotope.proofs.advance.remainder.Goals as goal

pub grown-requires : goal.grown-requires
grown-requires c = record {
  counts = listed_counts (λ i. size c.args.centre i + size c.args.vectors i) c.grown-residues.result (2 ^ 61) c.grown-residues.ensures (λ i h. omega (arith, (c.requires.centre i h).1, (c.requires.vectors i h).1));
  entries = counts_entries (2 ^ 61) c.allowances.result (listed_counts (allowance c.args.model.now) c.allowances.result (2 ^ 61) c.allowances.ensures (λ i h. le_trans (allowance-size c.args.model.now i) (lit≤ tt)));
}

pub returns : goal.returns
returns c =
    let m = c.args.model.now in
    c.grown.ensures ∙ grown_is c.grown-residues.result c.allowances.result (λ i. size c.args.centre i + size c.args.vectors i + allowance m i)
    (λ i h. omega (arith, listed-size (λ i. size c.args.centre i + size c.args.vectors i) c.grown-residues.result i c.grown-residues.ensures h, listed-size (allowance m) c.allowances.result i c.allowances.ensures h))
