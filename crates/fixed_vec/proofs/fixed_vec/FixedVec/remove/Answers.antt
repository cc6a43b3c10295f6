use Rattle.std.proofs.Common.{◌≡◌, ◌<◌, length, take, arith, rules}
use Rattle.std.proofs.lemmas.List.{length-take-le}
use Rattle.std.proofs.lemmas.Option.{slice_get_within}
use Rattle.fixed_vec.proofs.Removed.{removed_all}
use Rattle.fixed_vec.proofs.fixed_vec.FixedVec.remove.Goals as goal

pub returns : goal.returns
returns g c =
    let xs = c.args.self.now in
    let x = c.in_ok-item.item in
    let long : length xs.storage ≡ g.row.N = search rules in
    let front = length-take-le xs.len xs.storage (omega (arith, xs.room)) in
    let within = slice_get_within (take xs.len xs.storage) c.args.place x (search rules) in
    let below : c.args.place < xs.len = omega (arith, front, within) in (
      search rules,
      omega arith,
      removed_all x c.args.place xs.len xs.storage c.copy_within.new.self below (omega (arith, xs.room)) c.copy_within.ensures.len (λ k q r. c.copy_within.ensures.by_index.0 k x q r) (λ k q. c.copy_within.ensures.by_index.1 k x q),
    )
