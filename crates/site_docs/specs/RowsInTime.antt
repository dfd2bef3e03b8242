-- Rows that are seen under a limit on their times. Project rule.
use Rattle.std.specs.Prelude.{◌≡◌, ◌++◌, ◌∷◌, ◌<◌, ◌≤◌, ℕ, ⊤, All, MatchOption, None, Option}
use Rattle.std.specs.Prelude.{Some, length}
use Rattle.catalogue.specs.Entries.{Entries, Entry}
use Rattle.json_docs.specs.declared.fault.DocCause.TheVariants.{TimeAhead}
use Rattle.json_docs.specs.declared.fault.DocFault.{DocFault}
use Rattle.site_docs.specs.declared.rows_in_time.RowsInTime.{RowsInTime}

-- the time of the cell is not after the limit
abbrev pub IsInTime : ℕ → Entry → Type 0
IsInTime limit e = e.1.stamp.time ≤ limit

-- no time is after the limit, where there is one
abbrev pub AreInTime : Option ℕ → Entries → Type 0
AreInTime None cells = ⊤
AreInTime (Some limit) cells = All (IsInTime limit) cells

-- the row is that of the first cell whose time is after the limit
pub record IsFirstAhead (cells : Entries) (limit row : ℕ) : Type 0 where
  pub before : Entries
  pub ahead : Entry
  pub after : Entries
  pub cells_are : cells ≡ before ++ ahead ∷ after
  pub row_is : length before ≡ row
  pub in_time : All (IsInTime limit) before
  pub is_ahead : limit < ahead.1.stamp.time

-- it refuses this input document with that row
abbrev pub IsTimeAhead : ℕ → Option ℕ → Entries → DocFault → Type 0
IsTimeAhead document None cells fault = ⊥
IsTimeAhead document (Some limit) cells fault =
    (row : ℕ) × IsFirstAhead cells limit row
    × (fault ≡ record { document = document; cause = TimeAhead row })

-- the row is the first whose time is after the limit
abbrev pub IsFirstAfter : Option ℕ → Entries → ℕ → Type 0
IsFirstAfter None cells row = ⊥
IsFirstAfter (Some limit) cells row = IsFirstAhead cells limit row

-- all times are in the limit, or this is the first row of which the time is not
abbrev pub IsTimed : Option ℕ → Entries → Option ℕ → Type 0
IsTimed limit cells ahead = MatchOption ahead (AreInTime limit cells) (IsFirstAfter limit cells)

-- the rows that were seen are counted, and the first whose time is after the limit is known
abbrev pub HoldsTimes : {S : Type 0} → RowsInTime S → Entries → Type 0
HoldsTimes rows seen = (rows.seen ≡ length seen) × IsTimed rows.not_after seen rows.ahead
