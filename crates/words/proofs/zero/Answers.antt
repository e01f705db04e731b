use Rattle.std.proofs.Common.{◌≡◌, ◌-◌, ◌+◌, arith, ap, ◌∙◌}
use Rattle.std.specs.Prelude.{replicate}
use borrow.Rule.Slice.PartMut.{mid_len}
use Rattle.words.proofs.Laws.{filled}
use Rattle.words.proofs.zero.Goals as goal

pub returns : goal.returns
returns c =
    let n : c.from-start.result + c.from.result - c.from-start.result ≡ c.args.count = omega arith in
    let e : c.fill.new.self ≡ replicate c.args.count 0 = c.fill.ensures.after (λ y z. z) ∙ ap (λ n. replicate n 0)
    (mid_len c.from-start.result (c.from-start.result + c.from.result) c.args.m.now (omega (arith, c.told-m)) ∙ n) in
    rw (e, n, c.from-start.ensures) (filled c.args.count c.args.m.now c.args.address (omega arith) c.told-m)
