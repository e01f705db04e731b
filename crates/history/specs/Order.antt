-- Order of mail: a test that does not tell apart two messages of one key takes the first match past none of its key. Assumes nothing.
use Rattle.std.specs.Prelude.{◌≡◌, Bool, true, false, List, [], ◌∷◌, ◌++◌}
use Rattle.std.proofs.Math.Path.{refl}
use Rattle.std.proofs.Common.{sym, ◌∙◌}

-- what passes a test, in order
module _ {A : Type 0} where
  unfoldable pub only : (A → Bool) → List A → List A
  only t [] = []
  only t (x ∷ xs) = elim (t x) [ true ↦ x ∷ only t xs | false ↦ only t xs ]

  pub only_nil : (t : A → Bool) → only t [] ≡ []
  unfolding only
  only_nil t = refl

  pub only_yes : (t : A → Bool) (x : A) (xs : List A) → t x ≡ true → only t (x ∷ xs) ≡ x ∷ only t xs
  unfolding only
  only_yes t x xs e = rw (e, only)

  pub only_no : (t : A → Bool) (x : A) (xs : List A) → t x ≡ false → only t (x ∷ xs) ≡ only t xs
  unfolding only
  only_no t x xs e = rw (e, only)

  pub only_append : (t : A → Bool) (xs ys : List A) → only t (xs ++ ys) ≡ only t xs ++ only t ys
  only_append t [] ys = rw (only_nil t)
  only_append t (x ∷ xs) ys = go (t x) refl (only_append t xs ys)
    where
      go : (b : Bool) → t x ≡ b → only t (xs ++ ys) ≡ only t xs ++ only t ys → only t (x ∷ xs ++ ys) ≡ only t (x ∷ xs) ++ only t ys
      go true e ih = rw (only_yes t x (xs ++ ys) e, only_yes t x xs e, ih)
      go false e ih = rw (only_no t x (xs ++ ys) e, only_no t x xs e, ih)

  -- no element of the list passes
  abbrev pub Fails : (A → Bool) → List A → Type 0
  Fails t [] = Unit {0}
  Fails t (x ∷ xs) = (t x ≡ false) × Fails t xs

  -- the first match q stands behind xs: of any key, the list is the same with q before xs
  module _ (k t : A → Bool) (one : (x y : A) → k x ≡ true → k y ≡ true → t x ≡ t y) (q : A) (yes : t q ≡ true) where
    none : (xs : List A) → k q ≡ true → Fails t xs → only k xs ≡ []
    none [] kq h = only_nil k
    none (x ∷ xs) kq h = go (k x) refl (none xs kq h.1)
      where
        go : (b : Bool) → k x ≡ b → only k xs ≡ [] → only k (x ∷ xs) ≡ []
        go true e ih = let z : ◌≡◌ {A = Bool} true false = sym yes ∙ sym (one x q e kq) ∙ h.0 in cc
        go false e ih = only_no k x xs e ∙ ih

    pub overtakes_none : (xs ys : List A) → Fails t xs → only k (q ∷ xs ++ ys) ≡ only k (xs ++ q ∷ ys)
    overtakes_none xs ys h = go (k q) refl
      where
        go : (b : Bool) → k q ≡ b → only k (q ∷ xs ++ ys) ≡ only k (xs ++ q ∷ ys)
        go true e =
            let n = none xs e h in
            rw (only_yes k q (xs ++ ys) e, only_append k xs ys, only_append k xs (q ∷ ys), only_yes k q ys e, n)
        go false e = rw (only_no k q (xs ++ ys) e, only_append k xs ys, only_append k xs (q ∷ ys), only_no k q ys e)
