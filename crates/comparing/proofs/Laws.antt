-- Laws of the comparison, a law for each way through the code; m is the first memory, k the second.
use Prim.Native.Nat.{ℕ, zero, suc, ◌+◌, ◌-◌, ◌/◌, ◌%◌, ◌≤◌, ◌<◌}
use mathlib.Core.Path.{◌≡◌, refl, sym, ap, ◌∙◌}
use mathlib.Core.Bool.{Bool, true, false, cond, not, ◌&&◌, true≢false}
use mathlib.Core.List.{List, [], ◌∷◌, map}
use lib.Dec.{eqb}
use lib.ListN.{length, get_or}
use borrow.Author.Tests.{eqb-true, eqb-false, eq-eqb, ne_eqb, lt-ltb, le-ltb, le-leb, lt-leb}
use native.Mathlib.Omega.{arith}
use Rattle.std.specs.Prelude.{Option, Some, None, Result, Ok, Err, find, unwrap_or, is_some}
use Rattle.std.specs.List.{range_with_len, list_all}
use Rattle.std.specs.Map.Iter.{TakesFirst}
use Rattle.model.specs.declared.ControlPage.{ControlPage}
use Rattle.model.specs.Coded.{found, said_told, line_told, broken_told, refusal}
use Rattle.model.specs.Told.{Finding, Line}
use Rattle.model.specs.declared.refusal.Broken.{Broken as BrokenAt}
use Rattle.model.specs.declared.refusal.Refusal.TheVariants as Refusal
use Rattle.model.specs.declared.Line.{Line as CodedLine}
use Rattle.model.specs.declared.Said.{Said as CodedSaid}
use Rattle.model.specs.declared.Side.TheVariants.{First, Second}
use Rattle.model.specs.declared.State.{State}
use Rattle.model.specs.declared.Parts.{Parts}
use Rattle.model.specs.Map.{place, link, text, size, note, state, reason, q1, q2, memory_size, control_pages, interrupts}
use Rattle.model.specs.Address.{wrapped}
use Rattle.model.specs.Lists.{hit}
use Rattle.model.specs.Differ as Differ
use Rattle.model.specs.Differ.{same_words, same_messages, same_state, queue_at, differs_in}
use Rattle.model.specs.Bytes.{Memory, at, word, walk, running, priority, page_of, seat, queued, told_of, words_from, content_of, message_of, same_mail}
use Rattle.model.specs.Bytes.{queue_of, state_of, differences, said, is_whole}
use Rattle.comparing.specs.Telling.{next_speaks, next_silent, whole_gives, cut_gives}
use Rattle.comparing.specs.Cursors as Cursors
use Rattle.comparing.specs.Cursors.{Step, Told, step_told, names_end, next_differing, speaks, ended, names_step, second_step, first_step, judged_step}
use Rattle.comparing.specs.Cursors.{word_step, words_step, against_step, whole_step, size_step, sizes_step, cut_step, lines_from, gives}
use Rattle.comparing.specs.declared.Cursor.{Cursor}
use Rattle.comparing.specs.declared.Cursor.TheVariants.{Words, Names, Over}

-- ---- the search for an address: of n from a on
module _ (m k : Memory) where
  abbrev pub differs : ℕ → Bool
  differs i = not (eqb (get_or m i 0) (get_or k i 0))

  pub address_found : (n a : ℕ) → unwrap_or (find differs (range_with_len a n)) (a + n) ≡ next_differing n m k a
  unfolding Cursors.next_differing
  address_found zero a = omega arith
  address_found (suc n) a = go (eqb (get_or m a 0) (get_or k a 0)) (ap (λ (e : ℕ). unwrap_or (find differs (range_with_len (a + 1) n)) e) shift ∙ address_found n (a + 1))
    where
      shift : a + suc n ≡ a + 1 + n
      shift = omega arith

      go : (b : Bool) → unwrap_or (find differs (range_with_len (a + 1) n)) (a + suc n) ≡ next_differing n m k (a + 1)
          → unwrap_or (cond (not b) (Some a) (find differs (range_with_len (a + 1) n))) (a + suc n) ≡ elim b [ true ↦ next_differing n m k (a + 1) | false ↦ a ]
      go true ih = ih
      go false ih = refl

  pub address_bounds : (n a : ℕ) → (a ≤ next_differing n m k a) × (next_differing n m k a ≤ a + n)
  unfolding Cursors.next_differing
  address_bounds zero a = (omega arith, omega arith)
  address_bounds (suc n) a = go (eqb (get_or m a 0) (get_or k a 0)) (address_bounds n (a + 1))
    where
      go : (b : Bool) → (a + 1 ≤ next_differing n m k (a + 1)) × (next_differing n m k (a + 1) ≤ a + 1 + n)
          → (a ≤ elim b [ true ↦ next_differing n m k (a + 1) | false ↦ a ]) × (elim b [ true ↦ next_differing n m k (a + 1) | false ↦ a ] ≤ a + suc n)
      go true ih = (omega (arith, ih.0), omega (arith, ih.1))
      go false ih = (omega arith, omega arith)

-- ---- words one by one
wrapped_next : (a j : ℕ) → wrapped (wrapped a j) 1 ≡ wrapped a (j + 1)
wrapped_next a j = omega arith

wrapped_none : (a : ℕ) → a < 8192 → wrapped a 0 ≡ a
wrapped_none a h = omega arith

module _ (m k : Memory) (a b : ℕ) where
  abbrev pub same_at : ℕ → Bool
  same_at i = eqb (at m (wrapped a i)) (at k (wrapped b i))

  words_behind : (n j : ℕ) → list_all same_at (range_with_len j n) ≡ same_words (words_from n m (wrapped a j)) (words_from n k (wrapped b j))
  unfolding Differ.same_words Differ.words_from
  words_behind zero j = refl
  words_behind (suc n) j =
      let ih : list_all same_at (range_with_len (j + 1) n) ≡ same_words (words_from n m (wrapped (wrapped a j) 1)) (words_from n k (wrapped (wrapped b j) 1)) =
      rw (wrapped_next a j, wrapped_next b j) (words_behind n (j + 1)) in
      go (same_at j) ih
    where
      go : (c : Bool) → list_all same_at (range_with_len (j + 1) n) ≡ same_words (words_from n m (wrapped (wrapped a j) 1)) (words_from n k (wrapped (wrapped b j) 1))
          → (c && list_all same_at (range_with_len (j + 1) n))
          ≡ elim c [ true ↦ same_words (words_from n m (wrapped (wrapped a j) 1)) (words_from n k (wrapped (wrapped b j) 1)) | false ↦ false ]
      go true ih = ih
      go false ih = refl

  pub words_are : (n : ℕ) (r : Bool) → a < 8192 → b < 8192 → r ≡ list_all same_at (range_with_len 0 n) → r ≡ same_words (words_from n m a) (words_from n k b)
  words_are n r la lb er = rw (wrapped_none a la, wrapped_none b lb) at (er ∙ words_behind n 0)

-- ---- two messages, of pages p and q
same_head : (u v : ℕ) (us vs : List ℕ) → u ≡ v → same_words (u ∷ us) (v ∷ vs) ≡ same_words us vs
unfolding Differ.same_words
same_head u v us vs e = rw (eq-eqb u v e, same_words)

module _ (m k : Memory) (p q x y : ℕ) where
  module _ (ex : x ≡ word m p size) (ey : y ≡ word k q size) where
    pub content_on : (a b : ℕ) (r : Bool) → x ≡ y → a ≡ place p text → b ≡ place q text → r ≡ same_words (words_from (x % 64) m a) (words_from (x % 64) k b)
        → r ≡ same_words (content_of m p) (content_of k q)
    unfolding Differ.content_of
    content_on a b r e ea eb h =
        rw (same_head (word m p size) (word k q size) _ _ (sym ex ∙ e ∙ ey), ← ex, ← ey, ← e, ← ea, ← eb) h

    pub content_off : (x ≡ y → ⊥) → false ≡ same_words (content_of m p) (content_of k q)
    unfolding Differ.content_of Differ.same_words
    content_off e = rw (← ex, ← ey, ne_eqb x y e, same_words)

  module _ (ex : x ≡ word m p note) (ey : y ≡ word k q note) where
    pub message_on : (r : Bool) → x ≡ y → r ≡ same_words (content_of m p) (content_of k q) → r ≡ same_words (message_of m p) (message_of k q)
    unfolding Differ.message_of Differ.same_words
    message_on r e h = rw (← ex, ← ey, eq-eqb x y e, same_words) h

    pub message_off : (x ≡ y → ⊥) → false ≡ same_words (message_of m p) (message_of k q)
    unfolding Differ.message_of Differ.same_words
    message_off e = rw (← ex, ← ey, ne_eqb x y e, same_words)

pub ruleset contents = (content_on, content_off)

pub ruleset notes = (message_on, message_off)

some_length : (q : ℕ) (qs : List ℕ) → eqb (length (q ∷ qs)) 0 ≡ false
some_length q qs = ne_eqb (length (q ∷ qs)) 0 (λ e. omega (arith, e))

-- ---- the messages of two queues: pages xs and ys are left, and z is what the whole comes to
module _ (m k : Memory) (z : Bool) where
  abbrev pub Comes : List ℕ → List ℕ → Type 0
  Comes xs ys = same_messages (map (message_of m) xs) (map (message_of k) ys) ≡ z

  pub mail_shorter : (xs ys : List ℕ) (p : ℕ) (ps : List ℕ) → Comes xs ys → xs ≡ p ∷ ps → ys ≡ [] → false ≡ z
  unfolding Differ.same_messages
  mail_shorter xs ys p ps h ex ey = rw (ex, ey) at h

  module _ (xs ys ps qs : List ℕ) (p q : ℕ) (h : Comes xs ys) (ex : xs ≡ p ∷ ps) (ey : ys ≡ q ∷ qs) (c : Bool) (ec : c ≡ same_words (message_of m p) (message_of k q)) where
    both_lead : elim c [ true ↦ same_messages (map (message_of m) ps) (map (message_of k) qs) | false ↦ false ] ≡ z
    unfolding Differ.same_messages
    both_lead = rw ec (rw (ex, ey) at h)

    pub mail_on : c ≡ true → Comes ps qs
    mail_on e = rw e at both_lead

    pub mail_off : c ≡ false → false ≡ z
    mail_off e = rw e at both_lead

  pub mail_left : (xs ys : List ℕ) (b : Bool) → Comes xs ys → xs ≡ [] → b ≡ eqb (length ys) 0 → b ≡ z
  unfolding Differ.same_messages
  mail_left xs [] b h ex eb = eb ∙ rw ex at h
  mail_left xs (q ∷ qs) b h ex eb = eb ∙ some_length q qs ∙ rw ex at h

-- whether a walk gives one more page
pub over_is : (ys t : List ℕ) (o : Option ControlPage) (b : Bool) → TakesFirst (λ p. p.0) ys o t → is_some o ≡ not b → b ≡ eqb (length ys) 0
over_is ys t None true ey e = rw ey.0
over_is ys t None false ey e = absurd (true≢false (sym e))
over_is ys t (Some q) true ey e = absurd (true≢false e)
over_is ys t (Some q) false ey e = rw ey (sym (some_length q.0 t))

pub mail_begin : (m k : Memory) (a b i j c d : ℕ) (xs ys : List ℕ) → xs ≡ walk control_pages m i c → c ≡ a → i ≡ link → ys ≡ walk control_pages k j d
    → d ≡ b → j ≡ link → Comes m k (same_mail m a k b) xs ys
unfolding Differ.same_mail Differ.messages
mail_begin m k a b i j c d xs ys ex ea ei ey eb ej = rw (ex, ea, ei, ey, eb, ej)

-- ---- a processor's state
module _ (m : Memory) (x p : ℕ) (ex : x ≡ running m) where
  pub runs_is : cond (eqb x p) 1 0 ≡ hit (eqb (running m) p)
  runs_is = rw (← ex) (go (eqb x p))
    where
      go : (b : Bool) → cond b 1 0 ≡ hit b
      go true = refl
      go false = refl

pub queue_low : (s : ℕ) → s ≤ 245 → s ≡ queue_at s
unfolding Differ.queue_at
queue_low s h = rw (le-leb s 245 h)

pub queue_high : (s : ℕ) → 245 < s → 1 ≡ queue_at s
unfolding Differ.queue_at
queue_high s h = rw (lt-leb s 245 h)

module _ (m : Memory) (p s : ℕ) (c : Bool) (es : s ≡ seat interrupts m p) (ec : c ≡ queued m s p) where
  pub queue_in : (r : ℕ) → c ≡ true → r ≡ queue_at s → r ≡ queue_of m p
  unfolding Differ.queue_of
  queue_in r h e = rw (← es, ← ec, h) e

  pub queue_out : c ≡ false → 0 ≡ queue_of m p
  unfolding Differ.queue_of
  queue_out h = rw (← es, ← ec, h)

module _ (m : Memory) (p b u q w : ℕ) where
  pub state_is : b ≡ word m p state → w ≡ word m p reason → u ≡ hit (eqb (running m) p) → q ≡ queue_of m p
      → record { stopped = b / 128; waiting = b % 128 / 64; runs = u; queue = q; reason = w } ≡ state_of m p
  unfolding Differ.state_of
  state_is eb ew eu eq = rw (← eb, ← ew, ← eu, ← eq)

-- ---- what is said of two pages
module _ (m k : Memory) (p q : ℕ) where
  pub parts_are : (s t : State) (c f h : Bool) (x y a₁ b₁ a₂ b₂ : ℕ) → s ≡ state_of m p → t ≡ state_of k q → c ≡ same_state s t
      → x ≡ priority m p → y ≡ priority k q → a₁ ≡ place p q1 → b₁ ≡ place q q1 → f ≡ same_mail m a₁ k b₁
      → a₂ ≡ place p q2 → b₂ ≡ place q q2 → h ≡ same_mail m a₂ k b₂
      → record { state = not c; priority = not (eqb x y); q1 = not f; q2 = not h } ≡ differences m p k q
  unfolding Differ.differences
  parts_are s t c f h x y a₁ b₁ a₂ b₂ es et ec ex ey ea₁ eb₁ ef ea₂ eb₂ eh =
      rw (← es, ← et, ← ec, ← ex, ← ey, ← ea₁, ← eb₁, ← ef, ← ea₂, ← eb₂, ← eh)

-- a page that is found has its number, and page 0 is none
none_found : (n : ℕ) → None ≡ found n → n ≡ 0
unfolding found
none_found n e = go (eqb n 0) refl e
  where
    go : (b : Bool) → eqb n 0 ≡ b → ◌≡◌ {A = Option ControlPage} None (cond b None (Some (record { 0 = n }))) → n ≡ 0
    go true h f = eqb-true n 0 h
    go false h f = absurd (true≢false (sym (ap is_some f)))

some_found : (n : ℕ) (p : ControlPage) → Some p ≡ found n → (n ≡ 0 → ⊥) × (p.0 ≡ n)
unfolding found
some_found n p e = go (eqb n 0) refl e
  where
    go : (b : Bool) → eqb n 0 ≡ b → ◌≡◌ {A = Option ControlPage} (Some p) (cond b None (Some (record { 0 = n }))) → (n ≡ 0 → ⊥) × (p.0 ≡ n)
    go true h f = absurd (true≢false (ap is_some f))
    go false h f = (eqb-false n 0 h, ap (λ (o : Option ControlPage). (unwrap_or o p).0) f)

module _ (m k : Memory) (n : ℕ) (o u : Option ControlPage) (eo : o ≡ found (page_of m n)) (eu : u ≡ found (page_of k n)) where
  pub said_neither : o ≡ None → u ≡ None → said_told None ≡ said m k n
  unfolding Differ.said Differ.said_of said_told
  said_neither zo zu = rw (none_found _ (sym zo ∙ eo), none_found _ (sym zu ∙ eu))

  module _ (q : ControlPage) (zu : u ≡ Some q) where
    pub said_second : o ≡ None → said_told (Some (CodedSaid.OnlyIn Second)) ≡ said m k n
    unfolding Differ.said Differ.said_of said_told
    said_second zo = let f = some_found _ q (sym zu ∙ eu) in rw (none_found _ (sym zo ∙ eo), ne_eqb (page_of k n) 0 f.0)

    pub said_both : (p : ControlPage) (d : Parts) (r : Option CodedSaid) → o ≡ Some p → d ≡ differences m p.0 k q.0 → said_told r ≡ differs_in d → said_told r ≡ said m k n
    unfolding Differ.said Differ.said_of
    said_both p d r zo ed er =
        let f = some_found _ q (sym zu ∙ eu) in
        let g = some_found _ p (sym zo ∙ eo) in
        rw (ne_eqb (page_of m n) 0 g.0, ne_eqb (page_of k n) 0 f.0, ← g.1, ← f.1, ← ed) er

  pub said_first : (p : ControlPage) → o ≡ Some p → u ≡ None → said_told (Some (CodedSaid.OnlyIn First)) ≡ said m k n
  unfolding Differ.said Differ.said_of said_told
  said_first p zo zu = let g = some_found _ p (sym zo ∙ eo) in rw (ne_eqb (page_of m n) 0 g.0, none_found _ (sym zu ∙ eu))

pub ruleset sayings = (said_neither, said_second, said_both, said_first)

-- ---- the steps: r is what the code tells
something : (s : CodedSaid) → speaks (said_told (Some s)) ≡ true
unfolding said_told Cursors.speaks
something (CodedSaid.OnlyIn w) = refl
something (CodedSaid.DiffersIn d) = refl

nothing : speaks (said_told None) ≡ false
unfolding said_told Cursors.speaks
nothing = refl

names_more : (a : ℕ) → a < 16 → names_end - a ≡ suc (names_end - (a + 1))
names_more a h = omega arith

module _ (m k : Memory) (t : Bool) where
  -- the name a is the next; z is what the whole comes to
  module _ (a : ℕ) (z : Step) (i : names_step m k a t ≡ z) where
    pub name_told : (s : CodedSaid) → a < 16 → said_told (Some s) ≡ said m k a → step_told (Some (CodedLine.Processor a s, Names (a + 1) true)) ≡ z
    unfolding Cursors.names_step Cursors.name_step step_told line_told
    name_told s h e =
        let w : speaks (said m k a) ≡ true = rw (← e) (something s) in
        rw (names_more a h, next_speaks (names_end - (a + 1)) m k a w, lt-ltb a names_end h, ← e) at i

    pub name_on : a < 16 → said_told None ≡ said m k a → names_step m k (a + 1) t ≡ z
    unfolding Cursors.names_step
    name_on h e =
        let w : speaks (said m k a) ≡ false = rw (← e) nothing in
        rw (names_more a h, next_silent (names_end - (a + 1)) m k a w) at i

    pub name_over : (r : Told) → 16 ≤ a → step_told r ≡ ended t → step_told r ≡ z
    unfolding Cursors.names_step Cursors.next_named Cursors.name_step
    name_over r h e =
        let n : names_end - a ≡ 0 = omega arith in
        let j : ended t ≡ z = rw (n, le-ltb a names_end h) at i in
        e ∙ j

  pub word_told : (b x y : ℕ) → b < 8192 → x ≡ get_or m b 0 → y ≡ get_or k b 0
      → step_told (Some (CodedLine.Word b x y, Words (b + 1) true)) ≡ word_step m k b t
  unfolding Cursors.word_step step_told line_told
  word_told b x y h ex ey = rw (lt-ltb b memory_size h, ← ex, ← ey)

  pub word_over : (b : ℕ) (r : Told) → 8192 ≤ b → step_told r ≡ judged_step m k t → step_told r ≡ word_step m k b t
  unfolding Cursors.word_step
  word_over b r h e = rw (le-ltb b memory_size h) e

  pub words_step_lem : (a b : ℕ) (r : Told) → b ≡ next_differing (8192 - a) m k a → step_told r ≡ word_step m k b t → step_told r ≡ words_step m k a t
  unfolding Cursors.words_step
  words_step_lem a b r eb er = rw (← eb) er

  pub words_over : (a : ℕ) (r : Told) → 8192 ≤ a → step_told r ≡ word_step m k a t → step_told r ≡ words_step m k a t
  unfolding Cursors.words_step Cursors.next_differing
  words_over a r h er = let z : memory_size - a ≡ 0 = omega arith in rw z er

-- what was found, f, is what is told, g
module _ (f : Result (Unit {0}) BrokenAt) (g : Finding) (e : broken_told f ≡ g) where
  pub against_none : (u : Unit {0}) → f ≡ Ok u → step_told None ≡ against_step g
  unfolding Cursors.against_step step_told broken_told
  against_none u z = rw (← e, z)

  pub against_broken : (b : BrokenAt) → f ≡ Err b → step_told (Some (CodedLine.Refused Second (Refusal.Broken b), Over)) ≡ against_step g
  unfolding Cursors.against_step step_told broken_told line_told refusal
  against_broken b z = rw (← e, z)

  module _ (m k : Memory) (t : Bool) where
    pub second_none : (u : Unit {0}) (r : Told) → f ≡ Ok u → step_told r ≡ names_step m k 1 t → step_told r ≡ second_step g m k t
    unfolding Cursors.second_step broken_told
    second_none u r z er = rw (← e, z) er

    pub second_broken : (b : BrokenAt) → f ≡ Err b → step_told (Some (CodedLine.Refused Second (Refusal.Broken b), Over)) ≡ second_step g m k t
    unfolding Cursors.second_step step_told broken_told line_told refusal
    second_broken b z = rw (← e, z)

    pub first_none : (u : Unit {0}) (r : Told) → f ≡ Ok u → step_told r ≡ second_step (told_of k) m k t → step_told r ≡ first_step g m k t
    unfolding Cursors.first_step broken_told
    first_none u r z er = rw (← e, z) er

    pub first_broken : (b : BrokenAt) → f ≡ Err b → step_told (Some (CodedLine.Refused First (Refusal.Broken b), Cursor.Second)) ≡ first_step g m k t
    unfolding Cursors.first_step step_told broken_told line_told refusal
    first_broken b z = rw (← e, z)

pub ruleset steps = (
  name_told,
  name_on,
  name_over,
  word_told,
  word_over,
  words_step_lem,
  words_over,
  against_none,
  against_broken,
  second_none,
  second_broken,
  first_none,
  first_broken,
)

-- ---- what the next line leaves: l is told, and d is the cursor behind it
module _ (m k : Memory) (c : Cursor) where
  pub none_left : gives (step_told None) m k ≡ lines_from c m k → lines_from c m k ≡ []
  unfolding Cursors.gives step_told
  none_left e = sym e

  pub first_left : (l : CodedLine) (d : Cursor) → gives (step_told (Some (l, d))) m k ≡ lines_from c m k → lines_from c m k ≡ line_told l ∷ lines_from d m k
  unfolding Cursors.gives step_told
  first_left l d e = sym e

-- a list that has given one has fewer left
pub fewer : {A : Type 0} {s t : List A} {x : A} → s ≡ x ∷ t → length t < length s
fewer e = rw e (omega arith)

-- so behind each line that a step tells, fewer are left
pub fewer_left : (m k : Memory) (c d : Cursor) (l : Line) (r : Step) → gives r m k ≡ lines_from c m k → r ≡ Some (l, d)
    → length (lines_from d m k) < length (lines_from c m k)
unfolding Cursors.gives
fewer_left m k c d l r e h = let n : lines_from c m k ≡ l ∷ lines_from d m k = sym (rw h at e) in fewer n

-- ---- what the step tells: the memories as arrays are those that were lent
not_whole : (m : Memory) → (length m ≡ 8192 → ⊥) → is_whole m ≡ false
unfolding Differ.is_whole
not_whole m h = ne_eqb (length m) 8192 h

module _ (m k : Memory) (c : Cursor) (r : Told) where
  pub next_whole : (x y : Memory) → x ≡ m → y ≡ k → length x ≡ 8192 → length y ≡ 8192 → step_told r ≡ whole_step c x y → gives (step_told r) m k ≡ lines_from c m k
  next_whole x y ex ey lx ly e = rw (ex, ey) at (whole_gives x y lx ly c (step_told r) e)

  pub next_cut : (length m ≡ 8192 → ⊥) → step_told r ≡ cut_step c m k → gives (step_told r) m k ≡ lines_from c m k
  next_cut h e = cut_gives m k (rw (not_whole m h)) c (step_told r) e

  pub next_cut_second : (length k ≡ 8192 → ⊥) → step_told r ≡ cut_step c m k → gives (step_told r) m k ≡ lines_from c m k
  next_cut_second h e = cut_gives m k (and_false (is_whole m) (is_whole k) (not_whole k h)) c (step_told r) e
    where
      and_false : (a b : Bool) → b ≡ false → a && b ≡ false
      and_false true b z = z
      and_false false b z = refl

pub ruleset telling = (next_whole, next_cut, next_cut_second)

-- ---- where one has another length
module _ (k : Memory) where
  pub size_long : length k ≡ 8192 → step_told None ≡ size_step k
  unfolding Cursors.size_step Differ.is_whole step_told
  size_long h = rw (eq-eqb (length k) 8192 h)

  pub size_short : (length k ≡ 8192 → ⊥) → step_told (Some (CodedLine.Refused Second Refusal.WrongLength, Over)) ≡ size_step k
  unfolding Cursors.size_step Differ.is_whole step_told line_told refusal
  size_short h = rw (ne_eqb (length k) 8192 h)

module _ (m k : Memory) where
  pub sizes_long : (r : Told) → length m ≡ 8192 → step_told r ≡ size_step k → step_told r ≡ sizes_step m k
  unfolding Cursors.sizes_step Differ.is_whole
  sizes_long r h e = rw (eq-eqb (length m) 8192 h) e

  pub sizes_short : (length m ≡ 8192 → ⊥) → step_told (Some (CodedLine.Refused First Refusal.WrongLength, Cursor.Second)) ≡ sizes_step m k
  unfolding Cursors.sizes_step Differ.is_whole step_told line_told refusal
  sizes_short h = rw (ne_eqb (length m) 8192 h)

pub ruleset lengths = (size_long, size_short, sizes_long, sizes_short)
