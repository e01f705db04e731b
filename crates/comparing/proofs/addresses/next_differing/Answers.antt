use Rattle.std.proofs.Common.{rules, refl, arith, ap, subst, sym, ◌≡◌, ◌≤◌, ◌+◌, ◌-◌, ◌∙◌, ℕ, Option, unwrap_or}
use Rattle.std.proofs.lemmas.Iterator.{YieldsList-from_range}
use Rattle.std.proofs.lemmas.Iterator.Adapters.{option_map_id}
use Rattle.std.proofs.lemmas.Iterator.Search.{find_from_yields_List}
use Rattle.comparing.proofs.Laws.{address_found, address_bounds, differs}
use Rattle.comparing.proofs.addresses.next_differing.Goals as goal

pub returns : goal.returns
returns c =
    let m = c.args.first.now in
    let k = c.args.second.now in
    let e : c.args.from + c.args.count - c.args.from ≡ c.args.count = omega arith in
    let f = find_from_yields_List {v = λ x. x} (differs m k) _ _ _ c.find.ensures.ran (YieldsList-from_range c.args.from (c.args.from + c.args.count) c.args.count refl e) (λ x b q h. search rules) in
    let g = c.unwrap_or.ensures ∙ ap (λ (o : Option ℕ). unwrap_or o (c.args.from + c.args.count)) (sym (option_map_id _) ∙ f) ∙ address_found m k c.args.count c.args.from in
    let b = address_bounds m k c.args.count c.args.from in
    (g, subst (λ (r : ℕ). c.args.from ≤ r) (sym g) b.0, subst (λ (r : ℕ). r ≤ c.args.from + c.args.count) (sym g) b.1)
