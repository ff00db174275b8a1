-- With which words sentences begin.
use Rattle.std.proofs.Common.{◌≡◌, ◌∙◌, ◌++◌, ◌⊎◌, ℕ, List, [], ◌∷◌, ap, inl, inr, subst, sym, string_bytes}
use Rattle.proofs.specs.declared.proof.Parts.{Parts}
use Rattle.proofs.specs.declared.proof.Parts.TheVariants as parts
use Rattle.sentences.specs.declared.explanation.Sentence.{Sentence}
use Rattle.authenticators.specs.declared.authenticator.Authenticator.{Authenticator}
use Rattle.explanations.specs.Leads.{Begins, Lead, TellsParts, deviates_words, hash_words, segment_words, signed_words, two_hashes_words}

-- a sentence of a text that begins with words
pub begins : (s : Sentence) (text front words : List ℕ) → string_bytes s.text ≡ text → ((behind : List ℕ) × (text ≡ front ++ behind)) → front ≡ words → Begins s words
begins s text front words is b e = (b.0, is ∙ b.1 ∙ ap (λ (t : List ℕ). t ++ b.0) e)

-- a text of two
pub both : (text front rest f r : List ℕ) → text ≡ front ++ rest → front ≡ f → rest ≡ r → text ≡ f ++ r
both text front rest f r e first second = e ∙ ap (λ (t : List ℕ). t ++ rest) first ∙ ap (λ (t : List ℕ). f ++ t) second

-- more sentences behind
more_lead : (sentences rest : List Sentence) (words : List (List ℕ)) → Lead sentences words → Lead (sentences ++ rest) words
more_lead sentences rest [] h = tt
more_lead [] rest (w ∷ words) h = absurd h
more_lead (s ∷ sentences) rest (w ∷ words) h = (h.0, more_lead sentences rest words h.1)

twice : Authenticator → Authenticator → List (List ℕ)
twice a b = two_hashes_words a.node a.seq ∷ hash_words a.hash ∷ hash_words b.hash ∷ []

behind : (q : Parts) (lead rest : List Sentence) → TellsParts q lead → TellsParts q (lead ++ rest)
unfolding twice
behind (parts.TwoAuths a b) lead rest (inl h) = inl (more_lead lead rest (twice a b) h)
behind (parts.TwoAuths a b) lead rest (inr h) = inr (more_lead lead rest (twice b a) h)
behind (parts.AuthSegment a s) lead rest h = more_lead lead rest (signed_words a.node a.seq ∷ hash_words a.hash ∷ segment_words s ∷ []) h
behind (parts.Nonconforming s) lead rest h = more_lead lead rest (deviates_words s.node ∷ segment_words s ∷ []) h

pub more_parts : (q : Parts) (lead all : List Sentence) → TellsParts q lead → ((rest : List Sentence) × (all ≡ lead ++ rest)) → TellsParts q all
more_parts q lead all h more = subst (λ (ss : List Sentence). TellsParts q ss) (sym more.1) (behind q lead more.0 h)
