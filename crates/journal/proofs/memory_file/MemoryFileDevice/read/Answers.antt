use Rattle.std.proofs.Common.{◌≡◌, ℕ, zero, suc, ◌+◌, min, List, [], ◌∷◌, ◌++◌, length, take, drop, sym, ◌∙◌, ap, arith, rules, take-append-drop}
use Rattle.std.proofs.lemmas.List.{length-take-le}
use Rattle.journal.proofs.memory_file.MemoryFileDevice.read.Goals as goal

take_past : (xs ys : List ℕ) (m n : ℕ) → m ≡ length xs + n → take m (xs ++ ys) ≡ xs ++ take n ys
take_past [] ys m n is = let same : m ≡ n = omega arith in ap (λ (k : ℕ). take k ys) same
take_past (x ∷ xs) ys zero n is = absurd (omega arith)
take_past (x ∷ xs) ys (suc m) n is = ap (λ (l : List ℕ). x ∷ l) (take_past xs ys m n (omega arith))

-- what was read is the front, also of a file that is shorter now
front_of : (bytes : List ℕ) (read at : ℕ) → at ≡ min read (length bytes) → take read bytes ≡ take at bytes
front_of [] zero at is = let same : at ≡ 0 = omega (arith, is) in ap (λ (k : ℕ). take k []) (sym same)
front_of [] (suc read) at is = let same : at ≡ 0 = omega (arith, is) in ap (λ (k : ℕ). take k []) (sym same)
front_of (x ∷ bytes) zero at is = let same : at ≡ 0 = omega (arith, is) in ap (λ (k : ℕ). take k (x ∷ bytes)) (sym same)
front_of (x ∷ bytes) (suc read) zero is = absurd (omega (arith, is))
front_of (x ∷ bytes) (suc read) (suc at) is = ap (λ (l : List ℕ). x ∷ l) (front_of bytes read at (omega (arith, is)))

piece_of : (bytes piece : List ℕ) (read at n : ℕ) → at ≡ min read (length bytes) → piece ≡ take n (drop at bytes) → take (at + n) bytes ≡ take read bytes ++ piece
piece_of bytes piece read at n is are =
    let size : length (take at bytes) ≡ at = length-take-le at bytes (omega (arith, is)) in
    ap (λ (l : List ℕ). take (at + n) l) (sym (take-append-drop at bytes))
    ∙ take_past (take at bytes) (drop at bytes) (at + n) n (omega (arith, size))
    ∙ ap (λ (l : List ℕ). l ++ take n (drop at bytes)) (sym (front_of bytes read at is))
    ∙ ap (λ (l : List ℕ). take read bytes ++ l) (sym are)

pub returns-clause-found : goal.returns-clause-found
returns-clause-found c =
    let bytes = c.args.self.now.bytes.items in
    let at = c.min-at.result in
    let n = c.min.result in
    let at_is = c.min-at.ensures in
    let len_is = c.len.ensures in
    let long : c.len.result ≡ length bytes = omega (arith, len_is) in
    let is : c.in_ok-piece.piece.items ≡ take n (drop at bytes) = search (rules, c.in_ok-piece.ensures, c.deref.ensures) in
    piece_of bytes c.in_ok-piece.piece.items c.args.self.now.read at n (at_is ∙ ap (λ (k : ℕ). min c.args.self.now.read k) long) is
