-- What a fresh start from settings rests on.
use Rattle.std.proofs.Common.{◌≡◌, refl, sym, ap, ◌∙◌, ℕ, ◌≤◌, ◌<◌, Bool, true, false, cond, eqb, eqb-true, Option, Some, None, unwrap_or}
use Rattle.std.proofs.Common.{List, [], ◌∷◌, length, get_or, arith}
use Rattle.model.specs.declared.ControlPage.{ControlPage}
use Rattle.model.specs.declared.Entry.{Entry}
use Rattle.model.specs.Coded as Coded
use Rattle.model.specs.Coded.{found}
use Rattle.pages.specs.Taken.{Gives}
use Rattle.model.specs.Page.{Taken}
use Rattle.model.specs.Page.Taken.{took}
use Rattle.model.specs.Layout.{version_of, count_of, block_bytes, entries_of, is_entry, are_entries, is_good, of_block}
use Rattle.model.specs.Settings as Settings
use Rattle.model.specs.Bytes.{Memory, running, take_page, created, made, all_made, started, settled}
use Rattle.laws.specs.Fits.{Sets, block_of, entry_of, first_entry, good_is, laid_least}

-- ---- one entry: p is the one that runs, r what is taken, q the page
-- the page taken, or page 0
abbrev page_or_zero : Option ControlPage → ControlPage
page_or_zero r = unwrap_or r (record { 0 = 0 })

page_is : (n : ℕ) (q : ControlPage) → q ≡ page_or_zero (found n) → q.0 ≡ n
unfolding Coded.found
page_is n q e = ap (λ (x : ControlPage). x.0) e ∙ go (eqb n 0) refl
  where
    number : Option ControlPage → ℕ
    number r = let x : ControlPage = page_or_zero r in x.0

    go : (x : Bool) → eqb n 0 ≡ x → number (cond x None (Some (record { 0 = n }))) ≡ n
    go true h = sym (eqb-true n 0 h)
    go false h = refl

taken_is : (t : Taken Memory) (r : Option ControlPage) (m : Memory) (q : ControlPage) → Gives t r m → q ≡ page_or_zero r → took q.0 m ≡ t
taken_is (took n m₀) r m q g e =
    let a : q.0 ≡ n = page_is n q (e ∙ ap page_or_zero g.0) in
    let b : m ≡ m₀ = g.1 in
    rw (a, b) refl

pub made_is : (m m₁ m₂ : Memory) (e : Entry) (p : ℕ) (r : Option ControlPage) (q : ControlPage) → p ≡ running m → Gives (take_page m p) r m₁
    → q ≡ unwrap_or r (record { 0 = 0 }) → m₂ ≡ created m₁ q.0 e.name e.priority e.w e.address
    → m₂ ≡ made m e
unfolding Settings.made
made_is m m₁ m₂ e p r q ep g eq e₂ = rw (← ep, ← taken_is (take_page m p) r m₁ q g eq) e₂

-- ---- the settings of a good block
module _ (b : List ℕ) (h : is_good (of_block b) ≡ true) where
  sets : Sets b
  sets = block_of b (good_is (of_block b) h)

  pub settings_least : 4 ≤ length b
  settings_least = laid_least b sets.laid

  pub settings_long : block_bytes (version_of b) (count_of b) ≤ length b
  settings_long = omega (arith, sets.laid.long)

  pub settings_entries : (es : List Entry) → es ≡ entries_of b → are_entries es ≡ true
  settings_entries es e = rw e sets.entries

-- ---- entries that are left, the first of them and those behind it
module _ (es rest : List Entry) (e : Entry) (z : es ≡ e ∷ rest) where
  module _ (g : are_entries es ≡ true) where
    both : (is_entry e ≡ true) × (are_entries rest ≡ true)
    both = first_entry e rest (rw z at g)

    pub name_small : e.name < 16
    name_small = let t = (entry_of e both.0).0 in omega (arith, t.names)

    pub priority_small : e.priority < 16
    priority_small = let t = (entry_of e both.0).0 in omega (arith, t.priorities)

    pub good_rest : are_entries rest ≡ true
    good_rest = both.1

  pub made_next : (m m₁ r : Memory) → all_made m es ≡ r → m₁ ≡ made m e → all_made m₁ rest ≡ r
  unfolding Settings.all_made
  made_next m m₁ r er e₁ = ap (λ (x : Memory). all_made x rest) e₁ ∙ sym (ap (all_made m) z) ∙ er

-- none is left
pub settled_is : (b : List ℕ) (m m₁ m₂ : Memory) (es rest : List Entry) → m₁ ≡ started m (get_or b 2 0) (get_or b 3 0) → es ≡ entries_of b → rest ≡ []
    → all_made m₂ rest ≡ all_made m₁ es
    → m₂ ≡ settled m b
unfolding Settings.settled Settings.all_made
settled_is b m m₁ m₂ es rest e₁ ez z e =
    sym (ap (all_made m₂) z) ∙ e ∙ ap (all_made m₁) ez ∙ ap (λ (x : Memory). all_made x (entries_of b)) e₁

pub ruleset settling = (settings_least, settings_long, settings_entries, name_small, priority_small)
