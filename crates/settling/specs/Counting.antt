-- Paper 01, "The ring in demand 3": what is a pass and what is a silence, their counts in a list of events, what an event does to the views,
-- and what demand 3 concludes, one sentence a field. For any ring of which it is told whom an event gives the token to and whose watches it
-- ends: the ring of full stations is one. Definitions alone; words in quotes are the paper's.
use Rattle.std.specs.Prelude.{◌≡◌, ◌||◌, ◌∷◌, ◌++◌, ◌+◌, ◌-◌, ◌*◌, ◌≤◌}
use Rattle.laws.specs.Usual.{[], Bool, true, false, cond, List, ℕ, length, eqb}
use Rattle.settling.specs.Ring.{◌∈◌, next, Views, Within, Agreed, view_after_pass}
use Rattle.settling.specs.Steps.{after_all, EachFinds}

-- A ring in which passes and silences can be counted: its states, its events, the state after an event, and the views in a state.
pub record Counting : Type 1 where
  pub State : Type 0
  pub Input : Type 0
  pub after : State → Input → State
  pub views_of : State → Views
  -- the station that an event asks for a frame; any number where it asks none
  pub asks : Input → ℕ
  -- whom an event gives the token to: one station, or nobody where the event is no pass
  pub gives : State → Input → List ℕ
  -- whether an event ends the watch of a station
  pub ends : State → Input → ℕ → Bool

abbrev pub some_of : (ℕ → Bool) → List ℕ → Bool
some_of test [] = false
some_of test (number ∷ rest) = test number || some_of test rest

abbrev pub times_in : ℕ → List ℕ → ℕ
times_in x [] = 0
times_in x (number ∷ rest) = cond (eqb number x) 1 0 + times_in x rest

module _ (counting : Counting) where
  open counting use {State, Input, after, views_of, asks, gives, ends}

  -- "All name one holder when all views are equal."
  abbrev pub AllName : List ℕ → State → Type 0
  AllName numbers stations = Agreed numbers (views_of stations)

  -- "A silence is a tick that ends the watches": of any station of the ring
  abbrev pub is_silence : List ℕ → State → Input → Bool
  is_silence numbers stations event = some_of (ends stations event) numbers

  -- how many passes a list of events has
  abbrev pub passes : State → List Input → ℕ
  passes stations [] = 0
  passes stations (event ∷ events) = length (gives stations event) + passes (after stations event) events

  -- how many silences
  abbrev pub silences : List ℕ → State → List Input → ℕ
  silences numbers stations [] = 0
  silences numbers stations (event ∷ events) =
      cond (is_silence numbers stations event) 1 0 + silences numbers (after stations event) events

  -- how often x is given the token
  abbrev pub given : ℕ → State → List Input → ℕ
  given x stations [] = 0
  given x stations (event ∷ events) = times_in x (gives stations event) + given x (after stations event) events

  -- What an event does to the views of the ring: it is a pass, or a silence, or nothing to them.
  pub data Does (numbers : List ℕ) (stations : State) (event : Input) : Type 0 where
    -- a station of the ring that holds gives the token to the next after it, no watch ends, and every view moves by the rule of a token frame
    passed : asks event ∈ numbers → views_of stations (asks event) ≡ asks event → gives stations event ≡ next numbers (asks event) ∷ []
        → ((x : ℕ) → x ∈ numbers → ends stations event x ≡ false)
        → ((x : ℕ) → x ∈ numbers → views_of (after stations event) x ≡ view_after_pass numbers (asks event) (views_of stations x))
        → Does numbers stations event
    -- nobody is given the token, the watches of all end, nobody holds, and every view becomes next after it
    silent : gives stations event ≡ [] → ((x : ℕ) → x ∈ numbers → ends stations event x ≡ true)
        → ((x : ℕ) → x ∈ numbers → ¬ (views_of stations x ≡ x))
        → ((x : ℕ) → x ∈ numbers → views_of (after stations event) x ≡ next numbers (views_of stations x)) → Does numbers stations event
    -- nobody is given the token, no watch ends, and no view changes
    nothing : gives stations event ≡ [] → ((x : ℕ) → x ∈ numbers → ends stations event x ≡ false)
        → ((x : ℕ) → x ∈ numbers → views_of (after stations event) x ≡ views_of stations x) → Does numbers stations event

  -- What must be shown of a ring: an invariant Ok, kept by every event that can come to the stations that it finds, under which every view is
  -- among the numbers of the ring, and each such event does one of the three to the views.
  pub record Orderly (numbers : List ℕ) (Ok : State → Type 0) (CanCome : State → Input → Type 0) : Type 0 where
    pub within : (stations : State) → Ok stations → Within numbers (views_of stations)
    pub keeps : (stations : State) (event : Input) → Ok stations → CanCome stations event → Ok (after stations event)
    pub does : (stations : State) (event : Input) → Ok stations → CanCome stations event → Does numbers stations event

  -- What is concluded of a list of events whose first part, "up to the first time that they all name one holder, or to its end if they never
  -- do", is `before`, and whose rest is `later`. n is the number of stations.
  pub record CountingSettles (numbers : List ℕ) (stations : State) (before later : List Input) : Type 0 where
    -- "the list has at most n×n×n passes and (n-1)×(n-1) silences"
    pub passes_loose : passes stations before ≤ length numbers * length numbers * length numbers
    pub silences_loose : silences numbers stations before ≤ (length numbers - 1) * (length numbers - 1)
    -- sharper: at most n(n-1)/2 passes, at most 2n-3 silences, and none for one station
    pub passes_sharp : 2 * passes stations before ≤ length numbers * (length numbers - 1)
    pub silences_sharp : 2 ≤ length numbers → silences numbers stations before + 3 ≤ 2 * length numbers
    pub silences_alone : length numbers ≡ 1 → silences numbers stations before ≡ 0
    -- Where the list goes on after `before`, they all name one holder then.
    pub agreed : ¬ (later ≡ []) → AllName numbers (after_all after stations before)
    -- "from that first time on they all name one holder after every event": after every part of `later` from its start
    pub stays : AllName numbers (after_all after stations before) → (start rest : List Input) → later ≡ start ++ rest
        → AllName numbers (after_all after stations (before ++ start))
    -- and no silence comes
    pub no_silence : silences numbers (after_all after stations before) later ≡ 0
    -- "any n passes in a row give each station the token exactly once": in every stretch of `later` with n passes, whatever events that pass
    -- nothing are between them
    pub turns : (start window rest : List Input) → later ≡ start ++ (window ++ rest)
        → passes (after_all after stations (before ++ start)) window ≡ length numbers
        → (x : ℕ) → x ∈ numbers → given x (after_all after stations (before ++ start)) window ≡ 1
    -- each event does to the views what it counts as: a pass, a silence, or nothing
    pub each : EachFinds after (Does numbers) stations (before ++ later)
