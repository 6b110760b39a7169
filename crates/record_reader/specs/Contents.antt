-- What the lines of a text say.
use Rattle.std.specs.Prelude.{ℕ, List, []}
use Rattle.record_reader.specs.declared.entry.DomainEntry.{DomainEntry}
use Rattle.record_reader.specs.declared.entry.Pending.{Pending}

-- frequencies of domains, and paths and constraints, in the order of their lines
pub record Contents : Type 0 where
  pub domains : List DomainEntry
  pub links : List Pending

abbrev pub no_contents : Contents
no_contents = record { domains = []; links = [] }

-- the frequencies of each domain by its number
abbrev pub Domains : Type 0
Domains = ℕ → List ℕ
