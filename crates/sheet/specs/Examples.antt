-- Words that build a block, and words that build none, each computed from the definitions: `site S 3 16 5 7 Poznan 2 3 0 3000` and its like.
use Rattle.std.specs.Prelude.{ℕ, ◌≡◌, refl, List, [], ◌∷◌}
use Rattle.model.specs.Layout as Layout
use Rattle.script.specs.Script as Script
use Rattle.sheet.specs.Words as Words
use Rattle.sheet.specs.Words.{block_of}
use Rattle.sheet.specs.Words.Built.{wrong, built}

-- ---- the words, in their characters' numbers
abbrev w0 : List ℕ
w0 = 48 ∷ []

abbrev w1 : List ℕ
w1 = 49 ∷ []

abbrev w2 : List ℕ
w2 = 50 ∷ []

abbrev w3 : List ℕ
w3 = 51 ∷ []

abbrev w4 : List ℕ
w4 = 52 ∷ []

abbrev w5 : List ℕ
w5 = 53 ∷ []

abbrev w7 : List ℕ
w7 = 55 ∷ []

abbrev w16 : List ℕ
w16 = 49 ∷ 54 ∷ []

abbrev w256 : List ℕ
w256 = 50 ∷ 53 ∷ 54 ∷ []

abbrev w3000 : List ℕ
w3000 = 51 ∷ 48 ∷ 48 ∷ 48 ∷ []

abbrev w65536 : List ℕ
w65536 = 54 ∷ 53 ∷ 53 ∷ 51 ∷ 54 ∷ []

abbrev poznan : List ℕ
poznan = 80 ∷ 111 ∷ 122 ∷ 110 ∷ 97 ∷ 110 ∷ []

abbrev thirteen : List ℕ
thirteen = 65 ∷ 65 ∷ 65 ∷ 65 ∷ 65 ∷ 65 ∷ 65 ∷ 65 ∷ 65 ∷ 65 ∷ 65 ∷ 65 ∷ 65 ∷ []

abbrev minus : List ℕ
minus = 45 ∷ []

-- ---- a block of each version, of version 0, and of one that is not there yet
pub blocks : block_of (w3 ∷ w16 ∷ w5 ∷ w7 ∷ poznan ∷ w2 ∷ w3 ∷ w0 ∷ w3000 ∷ []) ∷ block_of (w2 ∷ w16 ∷ w5 ∷ w7 ∷ [])
    ∷ block_of (w1 ∷ w16 ∷ w5 ∷ w2 ∷ w3 ∷ w0 ∷ w3000 ∷ w3 ∷ w2 ∷ w0 ∷ w256 ∷ []) ∷ block_of (w0 ∷ w16 ∷ w5 ∷ []) ∷ block_of (w4 ∷ w16 ∷ w5 ∷ w7 ∷ minus ∷ [])
    ∷ []
    ≡ built (3 ∷ 1 ∷ 16 ∷ 5 ∷ 7 ∷ 80 ∷ 111 ∷ 122 ∷ 110 ∷ 97 ∷ 110 ∷ 0 ∷ 0 ∷ 0 ∷ 0 ∷ 0 ∷ 0 ∷ 2 ∷ 3 ∷ 0 ∷ 11 ∷ 184 ∷ []) ∷ built (2 ∷ 0 ∷ 16 ∷ 5 ∷ 7 ∷ [])
    ∷ built (1 ∷ 2 ∷ 16 ∷ 5 ∷ 2 ∷ 3 ∷ 0 ∷ 11 ∷ 184 ∷ 3 ∷ 2 ∷ 0 ∷ 1 ∷ 0 ∷ []) ∷ built (0 ∷ 0 ∷ 16 ∷ 5 ∷ [])
    ∷ built (4 ∷ 0 ∷ 16 ∷ 5 ∷ 7 ∷ 0 ∷ 0 ∷ 0 ∷ 0 ∷ 0 ∷ 0 ∷ 0 ∷ 0 ∷ 0 ∷ 0 ∷ 0 ∷ 0 ∷ []) ∷ []
unfolding Words.behind Words.number_of Words.head_of Words.due_behind Words.due_in_head Words.due_at Words.byte_taken Words.version_taken Words.address_taken
    Words.letters Words.labelled Words.label_taken Words.counted Words.ended Script.decimal Script.more Layout.head_bytes
blocks = refl

-- ---- none: a word too few, in the head and in a group; no site; a label of thirteen; 256, 65536, a word that is no number, an empty one
pub none : block_of [] ∷ block_of (w1 ∷ w16 ∷ []) ∷ block_of (w1 ∷ w16 ∷ w5 ∷ w2 ∷ w3 ∷ w0 ∷ []) ∷ block_of (w2 ∷ w16 ∷ w5 ∷ [])
    ∷ block_of (w3 ∷ w16 ∷ w5 ∷ w7 ∷ thirteen ∷ []) ∷ block_of (w256 ∷ w16 ∷ w5 ∷ []) ∷ block_of (w1 ∷ w16 ∷ w5 ∷ w2 ∷ w3 ∷ w0 ∷ w65536 ∷ [])
    ∷ block_of (w1 ∷ poznan ∷ w5 ∷ []) ∷ block_of (w1 ∷ [] ∷ w5 ∷ []) ∷ []
    ≡ wrong ∷ wrong ∷ wrong ∷ wrong ∷ wrong ∷ wrong ∷ wrong ∷ wrong ∷ wrong ∷ []
unfolding Words.behind Words.number_of Words.head_of Words.due_behind Words.due_in_head Words.due_at Words.byte_taken Words.version_taken Words.address_taken
    Words.letters Words.labelled Words.label_taken Words.counted Words.ended Script.decimal Script.more Layout.head_bytes
none = refl
