use Rattle.std.proofs.Common.{rules, refl, arith, ◌≡◌, ◌-◌}
use Rattle.std.proofs.lemmas.Iterator.{YieldsList-from_range}
use Rattle.std.proofs.lemmas.Iterator.Search.{all_from_yields_List}
use Rattle.comparing.proofs.Laws.{words_are, same_at}
use Rattle.comparing.proofs.letters.same_words.Goals as goal

pub returns : goal.returns
returns c =
    let m = c.args.first.now in
    let k = c.args.second.now in
    let e : c.args.count - 0 ≡ c.args.count = omega arith in
    words_are m k c.args.a c.args.b c.args.count _ c.requires.0 c.requires.1
    (all_from_yields_List {v = λ x. x} (same_at m k c.args.a c.args.b) _ _ _ c.all.ensures.ran (YieldsList-from_range 0 c.args.count c.args.count refl e)
    (λ x b q h. search rules))
