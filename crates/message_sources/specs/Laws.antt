-- What is known of the sources, where it stays as it is. Assumes nothing.
use Rattle.std.specs.Prelude.{◌≡◌}
use Rattle.laws.specs.Usual.{sym, ℕ}
use Rattle.std.proofs.lemmas.List.{set-get_or}
use Rattle.message_rules.specs.Rules.State.{Sources, known_of, with_known}

module _ (sources : Sources) (source : ℕ) where
  -- what is known already changes none of the lists
  pub each_same : (sources.versions ≡ (with_known sources source (known_of sources source)).versions)
      × ((sources.one_to_one ≡ (with_known sources source (known_of sources source)).one_to_one)
      × (sources.to_all ≡ (with_known sources source (known_of sources source)).to_all))
  each_same =
      (sym (set-get_or sources.versions source 0), (sym (set-get_or sources.one_to_one source 0), sym (set-get_or sources.to_all source 0)))
