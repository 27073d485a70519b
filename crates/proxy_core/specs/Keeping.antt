-- What holds of a proxy that has not failed, between two events and between two calls; proxies and
-- their link are this project's own.
use Rattle.std.specs.Prelude.{◌≡◌, ℕ, ◌+◌, ◌^◌, Option, Some, None}
use Rattle.side_model.specs.declared.fault.ProxyFault.{ProxyFault}
use Rattle.side_model.specs.Books.{Book}
use Rattle.side_model.specs.Due.{next}
use Rattle.side_model.specs.Events.{Rest}
use Rattle.side_model.specs.Follows.{Follows}
use Rattle.side_model.specs.Sound.{Sound}
use Rattle.side_model.specs.State.{Now}

-- a call begins where fewer than 2^59 frames were made, and its first group has at most as many as
-- the ring has places
abbrev pub MOST_MADE : ℕ
MOST_MADE = 2 ^ 59 + 8192

-- its numbers hold, and it is where some records lead
pub record Keeps (s : Now) : Type 0 where
  pub sound : Sound s
  pub book : Book
  pub follows : Follows s book

-- and nothing is due
pub record AtRest (s : Now) : Type 0 where
  pub keeps : Keeps s
  pub rests : next s ≡ Rest

-- where a proxy has not failed, it is at rest between two calls
abbrev pub Stands : Option ProxyFault → Now → Type 0
Stands None s = AtRest s
Stands (Some fault) s = Unit {0}
