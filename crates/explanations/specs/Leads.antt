-- The words with which the sentences of an exposed node begin. They are those of the proof that convicts it.
use Rattle.std.specs.Prelude.{◌≡◌, ◌⊎◌, ℕ, List, [], ◌∷◌, ◌++◌, codes, decimal, string_bytes}
use Rattle.hex.specs.Hex.{encode_lower}
use Rattle.authenticators.specs.declared.authenticator.Authenticator.{Authenticator}
use Rattle.item_forms.specs.declared.forms.Segment.{Segment}
use Rattle.item_forms.specs.Segments.{first_seq, last_seq}
use Rattle.proofs.specs.declared.proof.Parts.{Parts}
use Rattle.proofs.specs.declared.proof.Parts.TheVariants as parts
use Rattle.sentences.specs.declared.explanation.Sentence.{Sentence}

-- ---- words

-- The words that say that a node signed two hashes for an entry.
abbrev pub twice_words : ℕ → List ℕ
twice_words node = codes "Node " ++ decimal node ++ codes " signed two hashes for entry "

-- The number of that entry.
abbrev pub number_words : ℕ → List ℕ
number_words seq = decimal seq ++ codes " of its log."

-- The words that say that a node signed two hashes for the entry with this number.
abbrev pub two_hashes_words : ℕ → ℕ → List ℕ
two_hashes_words node seq = twice_words node ++ number_words seq

-- The words that say that a node signed a hash for an entry.
abbrev pub signed_words : ℕ → ℕ → List ℕ
signed_words node seq = (codes "Node " ++ decimal node ++ codes " signed a hash for entry ") ++ (decimal seq ++ codes " ")

-- The words that say that a node deviates.
abbrev pub deviates_words : ℕ → List ℕ
deviates_words node = codes "Node " ++ decimal node ++ codes " deviates from its program"

-- The words for a hash. The places where it is signed come behind them.
abbrev pub hash_words : List ℕ → List ℕ
hash_words hash = codes "Hash " ++ encode_lower hash ++ codes ":"

-- The words for a segment. The places where it stands come behind them.
abbrev pub segment_words : Segment → List ℕ
segment_words s = (codes "Its log from entry " ++ decimal (first_seq s.entries)) ++ (codes " to entry " ++ decimal (last_seq s.entries) ++ codes ":")

-- ---- sentences

-- The sentence begins with these words.
abbrev pub Begins : Sentence → List ℕ → Type 0
Begins s words = (rest : List ℕ) × (string_bytes s.text ≡ words ++ rest)

-- The first of the sentences begin with these words, in order.
abbrev pub Lead : List Sentence → List (List ℕ) → Type 0
Lead sentences [] = Unit {0}
Lead [] (words ∷ more) = ⊥
Lead (s ∷ sentences) (words ∷ more) = Begins s words × Lead sentences more

-- The sentences say that a node signed two hashes for one entry, in this order.
abbrev pub IsSaidTwice : Authenticator → Authenticator → List Sentence → Type 0
IsSaidTwice a b sentences = Lead sentences (two_hashes_words a.node a.seq ∷ hash_words a.hash ∷ hash_words b.hash ∷ [])

-- The sentences say that a statement of a node contradicts a segment of its log.
abbrev pub IsDenied : Authenticator → Segment → List Sentence → Type 0
IsDenied a s sentences = Lead sentences (signed_words a.node a.seq ∷ hash_words a.hash ∷ segment_words s ∷ [])

-- The sentences say that a segment deviates.
abbrev pub IsDeviation : Segment → List Sentence → Type 0
IsDeviation s sentences = Lead sentences (deviates_words s.node ∷ segment_words s ∷ [])

-- The sentences begin with what the parts of a proof show.
abbrev pub TellsParts : Parts → List Sentence → Type 0
TellsParts (parts.TwoAuths a b) sentences = IsSaidTwice a b sentences ⊎ IsSaidTwice b a sentences
TellsParts (parts.AuthSegment a s) sentences = IsDenied a s sentences
TellsParts (parts.Nonconforming s) sentences = IsDeviation s sentences
