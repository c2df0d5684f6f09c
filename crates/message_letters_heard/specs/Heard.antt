-- A message heard: by the numbers and the arrays that C lends, and one that leaves the station as it is.
use Rattle.laws.specs.Usual.{Bool, cond, List, ℕ}
use Rattle.boundary_core.specs.Crossing.{station_in}
use Rattle.boundary_core.specs.declared.Core.{Core}
use Rattle.boundary_places.specs.Places.{core_in}
use Rattle.message.specs.declared.Confirmation.{Confirmation}
use Rattle.message.specs.declared.Letter.{Letter}
use Rattle.message_letter_tests.specs.Tests.{is_received_by, passed_by}
use Rattle.message_places.specs.Places.{messages_in}
use Rattle.message_receiving.specs.Receiving.{Taking, taken_by}
use Rattle.message_rules.specs.Rules.Hearing.{Hearing, message_heard}
use Rattle.message_rules.specs.Rules.State.{Sources}
use Rattle.message.specs.declared.Received.TheVariants as received

-- hearing these octets, of the core and the outgoing side in numbers, the list in arrays, what is owed in numbers, and what is known
abbrev pub heard_in : List ℕ → List Bool → List ℕ → List ℕ → List ℕ → List ℕ → List ℕ → Sources → List ℕ → Hearing
heard_in core listed areas watch misses outgoing owed sources octets =
    message_heard (station_in (core_in core) listed areas watch misses) (messages_in outgoing owed sources) octets

-- one that leaves the station as it is
unfoldable pub delivered_by : Core → Bool → ℕ → List Confirmation → Sources → Letter → Taking
delivered_by core known given owed sources letter =
    cond (is_received_by core known given letter)
    (taken_by owed sources letter)
    (record { owed = owed; sources = sources; answer = received.Told (passed_by core known given letter) })
