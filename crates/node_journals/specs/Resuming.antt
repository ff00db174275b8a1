-- Which statements of a node that witnesses hold are its own.
use Rattle.std.specs.Prelude.{ℕ, ◌==◌, ◌&&◌, ◌||◌, not, Bool, List}
use Rattle.std.specs.List.{list_any}
use Rattle.std.specs.Str.{bytes_eq}
use Rattle.authenticators.specs.declared.authenticator.Authenticator.{Authenticator}

-- Two statements have the same number and hash.
abbrev pub is_same_stamp : Authenticator → Authenticator → Bool
is_same_stamp a b = (a.seq == b.seq) && bytes_eq a.hash b.hash

-- The statement is another node's, or the node signed its number and its hash.
abbrev pub is_known : ℕ → List Authenticator → Authenticator → Bool
is_known me signed s = not (s.node == me) || list_any (λ a. is_same_stamp a s) signed
