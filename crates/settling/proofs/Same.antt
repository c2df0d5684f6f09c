-- Views are read only at the numbers of the ring: views that are the same there have the same runs.
use Rattle.std.specs.Prelude.{◌∷◌}
use Rattle.laws.specs.Usual.{[], sym, ap, ◌∙◌, List, ℕ}
use Rattle.settling.specs.Ring.{next, Views, Agreed, Event, pass, silence, view_after_pass, move, Legal, Run, views_after}
use Rattle.settling.specs.Runs.{Differing}
use Rattle.settling.specs.Same.{Same}

pub same_sym : {ns : List ℕ} {v w : Views} → Same ns v w → Same ns w v
same_sym e x m = sym (e x m)

pub same_move : {ns : List ℕ} {v w : Views} (event : Event) → Same ns v w → Same ns (move ns v event) (move ns w event)
same_move {ns} (pass x) e y m = ap (view_after_pass ns x) (e y m)
same_move {ns} silence e y m = ap (next ns) (e y m)

pub same_agreed : {ns : List ℕ} {v w : Views} → Same ns v w → Agreed ns v → Agreed ns w
same_agreed e a x y m k = sym (e x m) ∙ a x y m k ∙ e y k

same_legal : {ns : List ℕ} {v w : Views} (event : Event) → Same ns v w → Legal ns v event → Legal ns w event
same_legal (pass x) e l = (l.0, sym (e x l.0) ∙ l.1)
same_legal silence e l = λ x m h. l x m (e x m ∙ h)

pub same_run : {ns : List ℕ} {v w : Views} (events : List Event) → Same ns v w → Run ns v events → Run ns w events
same_run [] e r = tt
same_run {ns = ns} {v = v} {w = w} (event ∷ events) e r = (same_legal event e r.0, same_run {v = move ns v event} events (same_move event e) r.1)

pub same_differing : {ns : List ℕ} {v w : Views} (events : List Event) → Same ns v w → Differing ns v events → Differing ns w events
same_differing [] e d = tt
same_differing {ns = ns} {v = v} {w = w} (event ∷ events) e d = (λ a. d.0 (same_agreed (same_sym e) a), same_differing {v = move ns v event} events (same_move event e) d.1)

pub same_after : {ns : List ℕ} {v w : Views} (events : List Event) → Same ns v w → Same ns (views_after ns v events) (views_after ns w events)
same_after [] e = e
same_after {ns = ns} {v = v} {w = w} (event ∷ events) e = same_after {v = move ns v event} events (same_move event e)
