use Rattle.std.proofs.Common.{rules, refl, ◌+◌, ◌∙◌}
use Rattle.std.proofs.lemmas.Iterator.{YieldsList-from_range}
use native.Mathlib.Omega.{arith}
use Rattle.model.specs.Bytes.{lists}
use Rattle.model.specs.Map.{grants}
use Rattle.lists.specs.Seen.{see_all}
use Rattle.lists.proofs.Onward.{try_fold_is}
use Rattle.lists.proofs.Heads.{range_each}
use Rattle.lists.proofs.seen.Seen.grants.Goals as goal

pub returns : goal.returns
returns c =
    try_fold_is (λ b k. see_all b (lists c.args.m.now (grants + k))) _ _ _ _ c.try_fold.ensures.ran (YieldsList-from_range 0 32 32 refl refl) (λ a x o q k. search rules)
    ∙ range_each (lists c.args.m.now) (λ k. grants + k) 1 (λ k. omega arith) 32 0 c.args.self
