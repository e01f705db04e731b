-- Instructions: "Word n is 224; n+1 has the code and a four-bit field." The table of lengths and argument counts, and the arguments of each
-- code, direct and for EXI.
use Rattle.std.specs.Prelude.{ℕ, zero, suc, ◌+◌, ◌*◌, Bool, true, false, cond, List, [], ◌∷◌, leb, get_or}
use Rattle.model.specs.declared.Arguments.{Arguments}
use Rattle.model.specs.Store.{Store}
use Rattle.model.specs.Map.{upper, lower, low_three, top, topped, high, low, is_indexed, index_number, four_bits, three_bits, five_bits, a_word, code_word}
use Rattle.model.specs.Map.{code_low, x_register}
use Rattle.model.specs.Address.{at, write, address_at, wrapped}

-- "Word n is 224"
abbrev pub first_word : ℕ
first_word = 224

-- ---- "| code | name, length | effect |": CVI DVI GIN WIN SME WNM RME TME ST1 STP ST2 CRP DEP 13 EXI
abbrev pub lengths : List ℕ
lengths = 4 ∷ 2 ∷ 2 ∷ 4 ∷ 4 ∷ 3 ∷ 4 ∷ 4 ∷ 2 ∷ 2 ∷ 4 ∷ 5 ∷ 2 ∷ 4 ∷ 4 ∷ []

-- "EXI arguments, one a word, an address two": how many words
abbrev pub argument_counts : List ℕ
argument_counts = 3 ∷ 1 ∷ 0 ∷ 2 ∷ 4 ∷ 2 ∷ 4 ∷ 4 ∷ 1 ∷ 1 ∷ 3 ∷ 5 ∷ 1 ∷ 4 ∷ 0 ∷ []

abbrev pub length_for : ℕ → ℕ
length_for c = get_or lengths c 2

abbrev pub count_for : ℕ → ℕ
count_for c = get_or argument_counts c 0

-- the codes that other definitions name
abbrev pub sme_code : ℕ
sme_code = 4

abbrev pub rme_code : ℕ
rme_code = 6

abbrev pub st1_code : ℕ
st1_code = 8

abbrev pub stp_code : ℕ
stp_code = 9

abbrev pub crp_code : ℕ
crp_code = 11

abbrev pub dep_code : ℕ
dep_code = 12

abbrev pub exi_code : ℕ
exi_code = 14

-- "4 deleting code 0 or 1": the first that may go
abbrev pub first_going : ℕ
first_going = 2

-- "CODE1 0-5 below": those that set LR
abbrev pub jump_operation : ℕ
jump_operation = 4

abbrev pub vep_operation : ℕ
vep_operation = 5

-- page 8: "kind in three bits (0 absent, 1 built in, 2 own)"
abbrev pub absent : ℕ
absent = 0

abbrev pub built_in : ℕ
built_in = 1

abbrev pub own : ℕ
own = 2

-- ---- shapes: "CVI and ST2 field, A; DVI, ST1, STP, DEP field; GIN none; WIN IK, count; WNM NI, F; SME, RME, TME NI, F, A; CRP NI, priority, W, A;
-- 13 its I X XN, CODE1, A"
abbrev pub bare : ℕ
bare = 0

abbrev pub plain : ℕ
plain = 1

abbrev pub addressed : ℕ
addressed = 2

abbrev pub counted : ℕ
counted = 3

abbrev pub flagged : ℕ
flagged = 4

abbrev pub complete : ℕ
complete = 5

abbrev pub creating : ℕ
creating = 6

abbrev pub shapes : List ℕ
shapes =
    addressed ∷ plain ∷ bare ∷ counted ∷ complete ∷ flagged ∷ complete ∷ complete ∷ plain ∷ plain ∷ addressed ∷ creating ∷ plain ∷ complete ∷ complete ∷ []

abbrev pub shape_for : ℕ → ℕ
shape_for c = get_or shapes c bare

-- "an EXI argument word beyond its field": the most that each of up to five words may be, a row for each shape
abbrev pub row_length : ℕ
row_length = 5

abbrev pub limits : List ℕ
limits =
    a_word ∷ a_word ∷ a_word ∷ a_word ∷ a_word
    ∷ four_bits ∷ a_word ∷ a_word ∷ a_word ∷ a_word
    ∷ four_bits ∷ five_bits ∷ a_word ∷ a_word ∷ a_word
    ∷ a_word ∷ a_word ∷ a_word ∷ a_word ∷ a_word
    ∷ four_bits ∷ three_bits ∷ a_word ∷ a_word ∷ a_word
    ∷ four_bits ∷ three_bits ∷ five_bits ∷ a_word ∷ a_word
    ∷ four_bits ∷ four_bits ∷ four_bits ∷ five_bits ∷ a_word
    ∷ []

abbrev pub limit_for : ℕ → ℕ → ℕ
limit_for s i = get_or limits (s * row_length + i) a_word

-- field, second, W and address; WIN's IK and count; what an instruction does not have is 0
abbrev pub arguments : ℕ → ℕ → ℕ → ℕ → Arguments
arguments f s w a = record { field = f; second = s; w = w; address = a; interrupt = 0; count = 0 }

abbrev pub counted_arguments : ℕ → ℕ → Arguments
counted_arguments k c = record { field = 0; second = 0; w = 0; address = 0; interrupt = k; count = c }

module _ (S : Store) where
  -- "n+1 has the code and a four-bit field"
  abbrev pub code_at : S.M → ℕ → ℕ
  code_at m n = upper (at S m (wrapped n 1))

  abbrev pub field_at : S.M → ℕ → ℕ
  field_at m n = lower (at S m (wrapped n 1))

  -- "Flag and CODE1 of code 13 are the top three bits of n+2, the address its low five and n+3."
  abbrev pub three_at : S.M → ℕ → ℕ
  three_at m n = top (at S m (wrapped n 2))

  abbrev pub address_of : S.M → ℕ → ℕ
  address_of m n = address_at S m (wrapped n 2)

  -- WIN: "n+2 is IK, n+3 the count"
  unfoldable pub direct_counted : S.M → ℕ → Arguments
  direct_counted m n = counted_arguments (at S m (wrapped n 2)) (at S m (wrapped n 3))

  -- CRP: "n+2 is priority, W; address in n+3 (low five bits), n+4"
  unfoldable pub direct_creating : S.M → ℕ → Arguments
  direct_creating m n = arguments (field_at m n) (upper (at S m (wrapped n 2))) (lower (at S m (wrapped n 2))) (address_at S m (wrapped n 3))

  -- the arguments of the instruction at n, of shape s
  unfoldable pub direct : S.M → ℕ → ℕ → Arguments
  direct m n s =
      get_or
      (arguments 0 0 0 0
      ∷ arguments (field_at m n) 0 0 0
      ∷ arguments (field_at m n) 0 0 (address_of m n)
      ∷ direct_counted m n
      ∷ arguments (field_at m n) (three_at m n) 0 0
      ∷ arguments (field_at m n) (three_at m n) 0 (address_of m n)
      ∷ direct_creating m n
      ∷ [])
      s
      (arguments 0 0 0 0)

  -- "EXI arguments, one a word, an address two": those at e, of shape s; a word beyond its field has been refused before, and is cut to it
  abbrev pub argument : S.M → ℕ → ℕ → ℕ
  argument m e i = at S m (wrapped e i)

  abbrev pub four_at : S.M → ℕ → ℕ → ℕ
  four_at m e i = lower (argument m e i)

  abbrev pub flag_at : S.M → ℕ → ℕ
  flag_at m e = low_three (argument m e 1)

  unfoldable pub pointed_creating : S.M → ℕ → Arguments
  pointed_creating m e = arguments (four_at m e 0) (four_at m e 1) (four_at m e 2) (address_at S m (wrapped e 3))

  unfoldable pub pointed : S.M → ℕ → ℕ → Arguments
  pointed m e s =
      get_or
      (arguments 0 0 0 0
      ∷ arguments (four_at m e 0) 0 0 0
      ∷ arguments (four_at m e 0) 0 0 (address_at S m (wrapped e 1))
      ∷ counted_arguments (argument m e 0) (argument m e 1)
      ∷ arguments (four_at m e 0) (flag_at m e) 0 0
      ∷ arguments (four_at m e 0) (flag_at m e) 0 (address_at S m (wrapped e 2))
      ∷ pointed_creating m e
      ∷ [])
      s
      (arguments 0 0 0 0)

  -- the first n argument words at e, of shape s, lie within their fields
  unfoldable pub within : ℕ → S.M → ℕ → ℕ → Bool
  within zero m e s = true
  within (suc n) m e s = elim (leb (argument m e n) (limit_for s n)) [ true ↦ within n m e s | false ↦ false ]

  -- "Indexing adds X register XN (words 24+2XN, 25+2XN, low five bits of the first) modulo 8,192": x is X and XN
  unfoldable pub indexed : S.M → ℕ → ℕ → ℕ
  indexed m x a = cond (is_indexed x) (wrapped a (address_at S m (x_register (index_number x)))) a

  -- page 8: "kind in three bits .., then an address; zero unless own"
  abbrev pub kind : S.M → ℕ → ℕ
  kind m c = top (at S m (code_word c))

  abbrev pub program : S.M → ℕ → ℕ
  program m c = address_at S m (code_word c)

  unfoldable pub set_code : S.M → ℕ → ℕ → ℕ → S.M
  set_code m c k a = write S (write S m (code_word c) (topped k (high a))) (code_low c) (low a)
