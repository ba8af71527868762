-- The range of the rates. Assumes nothing.
use Rattle.std.specs.Prelude.{Bool, ◌&&◌, List, ℤ, pos, slice_index_or}
use Rattle.market.specs.Units.{price_fits}

-- each of the four is a price in range
abbrev pub rates_fit : List ℤ → Bool
rates_fit ps =
    price_fits (slice_index_or ps 0 (pos 0)) && (price_fits (slice_index_or ps 1 (pos 0)) && (price_fits (slice_index_or ps 2 (pos 0)) && price_fits (slice_index_or ps 3 (pos 0))))
