-- The laws of mails.
use Rattle.std.proofs.Common.{◌≡◌, ◌≤◌, ◌+◌, ℕ, Bool, true, false, cond, eqb, leb, ltb, List, [], ◌∷◌, ◌++◌, length, filter, map, max, refl, ap, arith, inr}
use Rattle.std.specs.List.{All, AllByRecursion, Contains}
use Rattle.std.proofs.lemmas.Bool.{eqb-true, eq-eqb, le-leb, le-ltb, leb-true, lt-leb, lt-ltb, ne_eqb}
use Rattle.std.proofs.lemmas.List.{length-map, map-append, take_all}
use Rattle.std.proofs.lemmas.List.Elements.{Contains-append_right, filter-append, filter_passes, recursion_from_All}
use Rattle.std.proofs.lemmas.List.Sums.{count_by-le-length, length-filter}
use Rattle.authenticators.specs.Directory.{Listing, is_listed}
use Rattle.authenticators.proofs.AscendingLists.{cons_has}
use Rattle.replay_verifier.specs.declared.output.Output.{Output}
use Rattle.replay_verifier.specs.Sending.{is_sent}
use Rattle.mailbox.specs.declared.held.Held.{Held}
use Rattle.mailbox.specs.declared.held.Mail.{Mail}
use Rattle.mailbox.specs.declared.held.TheConstants.{LIFETIME, LONGEST_TEXT, MOST_MAILS}
use Rattle.mailbox.specs.HeldMails.{IsMail}
use Rattle.mailbox.specs.MailboxMeaning.{is_for, is_fresh, passed, sent}
use Rattle.mailbox_laws.specs.MailLaws.{FetchesAreSent, OldMailsAreDropped, TextsArrive}

-- ---- a text arrives

last_is_fetched : (mails : List Mail) (m : Mail) → Contains (map sent (filter (is_for m.to) (mails ++ m ∷ []))) (sent m)
last_is_fetched mails m =
    let is : eqb m.to m.to ≡ true = eq-eqb m.to m.to refl in
    rw (filter-append (is_for m.to) mails (m ∷ []), is, map-append sent (filter (is_for m.to) mails) (m ∷ []))
    (Contains-append_right (map sent (filter (is_for m.to) mails)) (sent m ∷ []) (sent m) (cons_has (sent m) [] (sent m) (inr refl)))

pub texts_arrive : TextsArrive
texts_arrive held from to text short room =
    let fits : ltb LONGEST_TEXT (length text) ≡ false = le-ltb _ _ short in
    let free : leb MOST_MAILS (length held.mails) ≡ false = lt-leb _ _ room in
    rw (fits, free) (last_is_fetched held.mails (record { from = from; to = to; at = held.clock; text = text }))

-- ---- what is fetched is sent

one_sent : (ds : Listing) (me from : ℕ) (m : Mail) → IsMail m → is_listed ds from ≡ true → eqb from me ≡ false → m.to ≡ from → is_sent ds me (sent m) ≡ true
one_sent ds me from m fits listed other is =
    let short : leb (length (sent m).payload) 65536 ≡ true = le-leb _ _ (omega (arith, fits.1.1.1.count)) in
    rw (is, listed, other, short) refl

more_sent : (ds : Listing) (me : ℕ) (m : Mail) (ms : List Mail) (b : Bool) → (b ≡ true → is_sent ds me (sent m) ≡ true) → filter (is_sent ds me) (map sent ms) ≡ map sent ms
    → filter (is_sent ds me) (map sent (cond b (m ∷ ms) ms)) ≡ map sent (cond b (m ∷ ms) ms)
more_sent ds me m ms true one rest = let is = one refl in rw is (ap (λ (os : List Output). sent m ∷ os) rest)
more_sent ds me m ms false one rest = rest

all_sent : (ds : Listing) (me from : ℕ) (mails : List Mail) → AllByRecursion IsMail mails → is_listed ds from ≡ true → eqb from me ≡ false
    → filter (is_sent ds me) (map sent (filter (is_for from) mails)) ≡ map sent (filter (is_for from) mails)
all_sent ds me from [] fits listed other = refl
all_sent ds me from (m ∷ mails) fits listed other =
    more_sent ds me m (filter (is_for from) mails) (eqb m.to from) (λ is. one_sent ds me from m fits.0 listed other (eqb-true _ _ is)) (all_sent ds me from mails fits.1 listed other)

pub fetches_are_sent : FetchesAreSent
fetches_are_sent ds me from held fits listed other =
    let kept = filter (is_for from) held.mails in
    let all = all_sent ds me from held.mails (recursion_from_All IsMail held.mails fits.1.1.each) listed (ne_eqb _ _ other) in
    let few : length (map sent kept) ≤ 16 = omega (arith, length-map kept sent, length-filter (is_for from) held.mails, count_by-le-length (is_for from) held.mails, fits.1.1.count) in
    rw all (take_all 16 (map sent kept) few)

-- ---- what is old is dropped

fresh_are_kept : (held : Held) (time : ℕ) → All (λ (m : Mail). time ≤ m.at + LIFETIME) (passed held time).state.mails
fresh_are_kept held time k d lt = omega (arith, leb-true _ _ (filter_passes (is_fresh (max held.clock time)) held.mails k d lt))

pub old_mails_are_dropped : OldMailsAreDropped
old_mails_are_dropped held time small = rw (lt-ltb _ _ small) (fresh_are_kept held time)
