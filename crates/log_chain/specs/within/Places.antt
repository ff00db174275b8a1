-- How a history finds the entries between two numbers: by their places in the list.
use Rattle.std.specs.Prelude.{◌≡◌, ℕ, ◌-◌, ◌≤◌, List, length, take, drop}
use Rattle.log_chain.specs.declared.entry.Entry.{Entry}
use Rattle.log_chain.specs.History.{below, between}

-- The entries between two numbers are those from the place start up to before the place end.
pub record IsCut (es : List Entry) (from to start end : ℕ) : Type 0 where
  pub order : start ≤ end
  pub bound : end ≤ length es
  pub before : below from es ≡ take start es
  pub within : between from to es ≡ take (end - start) (drop start es)
