-- A statement that has no verdict and of which nothing was found.
use Rattle.std.specs.Prelude.{◌≡◌, Bool, true, false, None}
use Rattle.std.specs.declared.cmp.Ordering.{Ordering}
use Rattle.std.specs.Ordering.{nat_cmp, ordering_then}
use Rattle.authenticators.specs.declared.authenticator.Authenticator.{Authenticator}
use Rattle.item_forms.specs.declared.forms.Fields.{Fields}
use Rattle.item_forms.specs.declared.forms.Fields.TheVariants as form
use Rattle.item_forms.specs.Groups.{block_order, text_order}
use Rattle.item_forms.specs.Spelling.{Fits}
use Rattle.evidence_item.specs.Checking.{Checked}

abbrev pub is_statement : Fields → Bool
is_statement (form.Auth a) = true
is_statement (form.Segment s) = false
is_statement (form.Audit c) = false
is_statement (form.Send m) = false
is_statement (form.Ack a) = false

pub record IsBare (c : Checked) : Type 0 where
  pub statement : is_statement c.item.fields ≡ true
  pub unjudged : c.verdict ≡ None
  pub unfound : c.findings ≡ None

-- The checked item that its fields make.
abbrev pub bare_of : (a : Authenticator) → Fits (form.Auth a) → Checked
bare_of a fits = record { item = record { fields = form.Auth a; fits = fits }; verdict = None; findings = None }

-- Statements by node, number, hash and signature, as they stand in the order of items.
abbrev pub statement_order : Authenticator → Authenticator → Ordering
statement_order a b = ordering_then (nat_cmp a.node b.node) (ordering_then (nat_cmp a.seq b.seq) (ordering_then (block_order a.hash b.hash) (text_order a.sig b.sig)))
