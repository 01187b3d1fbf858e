-- Which NEWSTATE a site takes.
use Rattle.std.specs.Prelude.{ℕ, ◌+◌, ◌==◌, ◌&&◌, Bool, not, nat_lt, nat_le, length, if◌then◌else◌}
use Rattle.vr_types.specs.declared.limits.TheConstants.{MAX_ROWS}
use Rattle.vr_types.specs.Site.{Site, is_normal}

-- This number of rows after the first `base` fits the log. In its view a normal site takes rows that make its log
-- longer; otherwise it takes rows that begin among its executed rows and reach to the end of these.
abbrev pub rows_fit : {C : Type 0} → Site C → ℕ → ℕ → ℕ → Bool
rows_fit x w base rows =
    not (nat_lt MAX_ROWS (base + rows))
    && (if is_normal x.status && (w == x.view) then nat_le base (length x.log) && nat_lt (length x.log) (base + rows)
    else nat_le base x.done && nat_le x.done (base + rows))
