-- What records give, text by text.
use Rattle.std.proofs.Common.{◌≡◌, ℕ, ◌+◌, ◌<◌, List, [], ◌∷◌, ◌++◌, length, take, drop, Vec, Result, Ok, Err, refl, sym, ap, ◌∙◌, append_assoc, inl, inr}
use Rattle.std.specs.Prelude.{get_or}
use Rattle.std.specs.declared.alloc.Global.{Global}
use Rattle.std.proofs.lemmas.List.{map-append, take_more, take-append-drop}
use Rattle.outcome.specs.Outcome.{◌>>=◌, Fails}
use Rattle.commitment.specs.Calls.{Given, after_call}
use Rattle.commitment.specs.Nodes.{NodeState}
use Rattle.replay_verifier.specs.Meaning.{Meaning}
use Rattle.journal.specs.Journal.{texts_of}
use Rattle.node_runs.specs.Runs.{RunsOnlyAdd, run}
use Rattle.node_journals.specs.declared.fault.RebuildFault.{RebuildFault}
use Rattle.node_journals.specs.declared.fault.RebuildFault.TheVariants.{Memory}
use Rattle.node_journals.specs.declared.keys.Secret.{Secret}
use Rattle.node_journals.specs.Rebuilding.{input_of, inputs_of, replayed}
use Rattle.node_journals.specs.within.Replaying.{HasReplayed}

abbrev Inputs : Type 0
Inputs = Result (List Given) RebuildFault

-- ---- lists of texts

same_again : (r : Inputs) → r ≡ (r >>= λ given. Ok given)
same_again (Ok given) = refl
same_again (Err e) = refl

one_more : (first : Result Given RebuildFault) (some others : Inputs)
    → (first >>= λ x. (some >>= λ xs. others >>= λ ys. Ok (xs ++ ys)) >>= λ zs. Ok (x ∷ zs)) ≡ ((first >>= λ x. some >>= λ xs. Ok (x ∷ xs)) >>= λ xs. others >>= λ ys. Ok (xs ++ ys))
one_more (Ok x) (Ok xs) (Ok ys) = refl
one_more (Ok x) (Ok xs) (Err e) = refl
one_more (Ok x) (Err e) others = refl
one_more (Err e) some others = refl

-- what two lists of texts give
pub inputs_append : (secrets : List Secret) (xs ys : List (List ℕ)) → inputs_of secrets (xs ++ ys) ≡ (inputs_of secrets xs >>= λ xs. inputs_of secrets ys >>= λ ys. Ok (xs ++ ys))
unfolding inputs_of
inputs_append secrets [] ys = same_again (inputs_of secrets ys)
inputs_append secrets (x ∷ xs) ys =
    ap (λ (r : Inputs). input_of secrets x >>= λ a. r >>= λ xs. Ok (a ∷ xs)) (inputs_append secrets xs ys)
    ∙ one_more (input_of secrets x) (inputs_of secrets xs) (inputs_of secrets ys)

one_input : (secrets : List Secret) (text : List ℕ) (given : Given) → input_of secrets text ≡ Ok given → inputs_of secrets (text ∷ []) ≡ Ok (given ∷ [])
unfolding inputs_of
one_input secrets text given e = ap (λ (r : Result Given RebuildFault). r >>= λ a. Ok (a ∷ [])) e

no_input : (secrets : List Secret) (text : List ℕ) (texts : List (List ℕ)) (e : RebuildFault) → input_of secrets text ≡ Err e → inputs_of secrets (text ∷ texts) ≡ Err e
unfolding inputs_of
no_input secrets text texts e is = ap (λ (r : Result Given RebuildFault). r >>= λ a. inputs_of secrets texts >>= λ xs. Ok (a ∷ xs)) is

-- a fault of a text behind such as give something is the fault of all
fault_behind : (secrets : List Secret) (before after : List (List ℕ)) (text : List ℕ) (given : List Given) (e : RebuildFault) → inputs_of secrets before ≡ Ok given → input_of secrets text ≡ Err e
    → inputs_of secrets (before ++ (text ∷ after)) ≡ Err e
fault_behind secrets before after text given e is fails =
    inputs_append secrets before (text ∷ after)
    ∙ ap (λ (r : Inputs). r >>= λ xs. inputs_of secrets (text ∷ after) >>= λ ys. Ok (xs ++ ys)) is
    ∙ ap (λ (r : Inputs). r >>= λ ys. Ok (given ++ ys)) (no_input secrets text after e fails)

-- ---- the texts of vectors

abbrev items_of : Vec ℕ Global → List ℕ
items_of v = v.items

texts_more : (vectors : List (Vec ℕ Global)) (i : ℕ) (v : Vec ℕ Global) → i < length vectors → v ≡ get_or vectors i v → texts_of (take (i + 1) vectors) ≡ texts_of (take i vectors) ++ v.items ∷ []
texts_more vectors i v lt is =
    ap texts_of (take_more vectors i v lt ∙ ap (λ (x : Vec ℕ Global). take i vectors ++ x ∷ []) (sym is))
    ∙ map-append items_of (take i vectors) (v ∷ [])

texts_parts : (vectors : List (Vec ℕ Global)) (i : ℕ) (v : Vec ℕ Global) → i < length vectors → v ≡ get_or vectors i v → texts_of vectors ≡ texts_of (take i vectors) ++ (v.items ∷ texts_of (drop (i + 1) vectors))
texts_parts vectors i v lt is =
    ap texts_of (sym (take-append-drop (i + 1) vectors))
    ∙ map-append items_of (take (i + 1) vectors) (drop (i + 1) vectors)
    ∙ ap (λ (t : List (List ℕ)). t ++ texts_of (drop (i + 1) vectors)) (texts_more vectors i v lt is)
    ∙ append_assoc (texts_of (take i vectors)) (v.items ∷ []) (texts_of (drop (i + 1) vectors))

-- ---- a node

module _ {S : Type 0} (p : Meaning S) (secrets : List Secret) where
  pub none_replayed : (n : NodeState S) → HasReplayed p secrets [] n n
  unfolding inputs_of run
  none_replayed n = record { given = []; read = refl; node = refl }

  run_one : (n : NodeState S) (x : Given) → run p n (x ∷ []) ≡ after_call p n x
  unfolding run
  run_one n x = refl

  pub one_replayed : RunsOnlyAdd S → (vectors : List (Vec ℕ Global)) (i : ℕ) (v : Vec ℕ Global) (text : List ℕ) (old mid new : NodeState S) (x : Given) → i < length vectors → v ≡ get_or vectors i v → text ≡ v.items
      → HasReplayed p secrets (texts_of (take i vectors)) old mid → input_of secrets text ≡ Ok x → new ≡ after_call p mid x → HasReplayed p secrets (texts_of (take (i + 1) vectors)) old new
  one_replayed runs vectors i v text old mid new x lt is same h e node = record {
    given = h.given ++ x ∷ [];
    read =
        ap (inputs_of secrets) (texts_more vectors i v lt is)
        ∙ inputs_append secrets (texts_of (take i vectors)) (v.items ∷ [])
        ∙ ap (λ (r : Inputs). r >>= λ xs. inputs_of secrets (v.items ∷ []) >>= λ ys. Ok (xs ++ ys)) h.read
        ∙ ap (λ (r : Inputs). r >>= λ ys. Ok (h.given ++ ys)) (one_input secrets v.items x (ap (input_of secrets) (sym same) ∙ e));
    node = node ∙ ap (λ (n : NodeState S). after_call p n x) h.node ∙ sym (run_one (run p old h.given) x) ∙ sym (runs.parts p old h.given (x ∷ []));
  }

  pub all_replayed : (texts : List (List ℕ)) (old new : NodeState S) → HasReplayed p secrets texts old new → replayed p secrets old texts ≡ Ok new
  unfolding replayed
  all_replayed texts old new h = ap (λ (r : Inputs). r >>= λ xs. Ok (run p old xs)) h.read ∙ ap (λ (n : NodeState S). Ok n) (sym h.node)

  pub not_replayed : (vectors : List (Vec ℕ Global)) (i : ℕ) (v : Vec ℕ Global) (text : List ℕ) (old mid : NodeState S) (e : RebuildFault) → i < length vectors → v ≡ get_or vectors i v → text ≡ v.items
      → HasReplayed p secrets (texts_of (take i vectors)) old mid → Fails Memory e (input_of secrets text) → Fails Memory e (replayed p secrets old (texts_of vectors))
  unfolding replayed
  not_replayed vectors i v text old mid e lt is same h (inl memory) = inl memory
  not_replayed vectors i v text old mid e lt is same h (inr fails) =
      inr (ap (λ (r : Inputs). r >>= λ xs. Ok (run p old xs)) (ap (inputs_of secrets) (texts_parts vectors i v lt is)
      ∙ fault_behind secrets (texts_of (take i vectors)) (texts_of (drop (i + 1) vectors)) v.items h.given e h.read (ap (input_of secrets) (sym same) ∙ fails)))
