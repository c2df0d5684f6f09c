-- A tick keeps what holds in every state. Assumes nothing.
use Rattle.members.specs.Listing.{bare}
use Rattle.station.specs.Types.{Settings}

-- our own settings with both sizes 0
abbrev pub bared : Settings → Settings
bared own = record { number = own.number; areas = bare own.areas; watch = own.watch }
