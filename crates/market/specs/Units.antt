-- The ranges of the market's figures. Assumes nothing.
use Rattle.std.specs.Prelude.{ℕ, Bool, ◌&&◌, ℤ, pos, negsuc, int_le, nat_le}

-- -1,000,000 to 1,000,000 cents per MWh
abbrev pub price_fits : ℤ → Bool
price_fits p = int_le (negsuc 999999) p && int_le p (pos 1000000)

-- 1 to 100,000 tenths of a MW
abbrev pub quantity_fits : ℕ → Bool
quantity_fits q = nat_le 1 q && nat_le q 100000

abbrev pub hour_fits : ℕ → Bool
hour_fits h = nat_le 1 h && nat_le h 24

abbrev pub qse_fits : ℕ → Bool
qse_fits q = nat_le 1 q && nat_le q 8
