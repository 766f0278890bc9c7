-- A job with a described predictor has one view of each kind.
use Rattle.std.proofs.Common.{◌≡◌, ◌∙◌, ◌+◌, ◌^◌, ◌≤◌, ℕ, Bool, List, Option, None, subst, sym, arith}
use Rattle.rv_drawing.specs.declared.mark.Mark.{Mark}
use Rattle.rv_explain.proofs.OneExplanation.{one_explanation}
use Rattle.rv_explain.specs.Explanation.{IsExplanation}
use Rattle.rv_explain.specs.declared.figures.Figures.{Figures}
use Rattle.rv_front.specs.Predictors.{described, guide_of}
use Rattle.rv_front.specs.declared.predictors.DescribedPredictor.{DescribedPredictor}
use Rattle.rv_job.specs.declared.{job.Job.Job, listed_job.ListedJob.ListedJob}
use Rattle.rv_hardware.specs.Guided.{GuidedHardware, guided}
use Rattle.rv_log.proofs.OneLog.{one_log}
use Rattle.rv_log.specs.Log.{IsLog}
use Rattle.rv_picture.proofs.OnePicture.{one_picture}
use Rattle.rv_picture.specs.Picture.{IsPicture}
use Rattle.rv_picture.specs.declared.picture.{RunEnd.RunEnd, View.View}
use Rattle.rv_profile.proofs.OneProfile.{one_profile}
use Rattle.rv_profile.specs.Run.{IsProfile}
use Rattle.rv_path.proofs.OneAccount.{one_account}
use Rattle.rv_path.proofs.OneMarking.{one_marking}
use Rattle.rv_path.proofs.OnePath.{one_path}
use Rattle.rv_path.specs.Run.{IsPath}
use Rattle.rv_causes.specs.Account.{Accounted}
use Rattle.rv_states.proofs.OneText.{one_text}
use Rattle.rv_states.specs.States.{IsStates}
use Rattle.rv_view.specs.Run.{HasOneText}
use Rattle.rv_program.specs.AskedPath.{AreMarksOf, IsAccountOf, IsAskedFor}
use Rattle.rv_program.specs.CoreReport.{IsAtMostOne, hardware_of}
use Rattle.rv_program.specs.RunView.{IsViewOf, limit_of}
use Rattle.rv_program.specs.declared.run_view.{RunView.RunView, Stretch.Stretch}
use Rattle.rv_program.specs.declared.run_view.RunView.TheVariants.{Picture, Log, States, Explanation, Profile, Path}

-- a view whose run ended by itself, and not before it
whole : {ended ended' : RunEnd} → ended.stop ≡ ended'.stop → ended.over ≡ None → ended'.over ≡ None → ended ≡ ended'
whole stops none none' = λ i. record { stop = stops i; over = (none ∙ sym none') i }

-- what is asked for is one thing, where one alone is right
asked_once : {T : Type 0} (path : Bool) (Is : T → Type 0) (found found' : Option T) →
    ((a b : T) → Is a → Is b → a ≡ b) → IsAskedFor path Is found → IsAskedFor path Is found' → found ≡ found'
asked_once path Is found found' once is is' = grind arith

-- the predictor that a job describes
abbrev own : Job → DescribedPredictor
own job = described job.description.predictor.kind job.description.predictor.entries

marks_once : (job : Job) (view : View) (path : Bool) (marks marks' : Option (List Mark)) →
    view.from + view.cycles ≤ 2 ^ 40
    → IsAskedFor path (AreMarksOf job view) marks → IsAskedFor path (AreMarksOf job view) marks' → marks ≡ marks'
marks_once job view path marks marks' within = asked_once path (AreMarksOf job view) marks marks' (λ a b is is'.
    one_marking job.arrivals view.from view.cycles (hardware_of job) (own job) is.0 is'.0 a b
    (omega (arith, within)) is.1 is'.1)

account_once : (job : Job) (limit : ℕ) (path : Bool) (account account' : Option Accounted) → limit ≤ 2 ^ 40
    → IsAskedFor path (IsAccountOf job limit) account → IsAskedFor path (IsAccountOf job limit) account' →
    account ≡ account'
account_once job limit path account account' within =
    asked_once path (IsAccountOf job limit) account account' (λ a b is is'.
    one_account job.arrivals limit (hardware_of job) (own job) is.0 is'.0 a b (omega (arith, within)) is.1 is'.1)

module _ (listed : ListedJob) (predictor : DescribedPredictor) where
  -- where a run has one text of a kind, this job's has
  once : {T : Type 0} (limit : ℕ) (Is : GuidedHardware → GuidedHardware → T → List ℕ → Type 0) → HasOneText limit Is →
      limit ≤ 2 ^ 40 →
      (new new' : GuidedHardware) (end end' : T) (text text' : List ℕ) →
      Is (guided (hardware_of listed.job) (guide_of predictor)) new end text →
      Is (guided (hardware_of listed.job) (guide_of predictor)) new' end' text' → (end ≡ end') × (text ≡ text')
  once limit Is one within new new' end end' text text' is is' =
      one (hardware_of listed.job) predictor new new' end end' text text' (omega (arith, within)) is is'

  picture_once : (view : View) (path : Bool) → view.from + view.cycles ≤ 2 ^ 40 →
      IsAtMostOne (IsViewOf listed (guide_of predictor) (Picture view path))
  picture_once view path within ended ended' text text' is is' =
      let (marks, asked, shows) = is.shows in
      let (marks', asked', shows') = is'.shows in
      let Is = λ (m : Option (List Mark)). IsPicture listed.job.arrivals view m listed.listing in
      let same = marks_once listed.job view path marks' marks within asked' asked in
      once (view.from + view.cycles) (Is marks) (one_picture listed.job.arrivals view marks listed.listing) within
      is.end is'.end ended ended' text text' shows (subst (λ m. Is m _ is'.end ended' text') same shows')

  log_once : (limit : ℕ) → limit ≤ 2 ^ 40 → IsAtMostOne (IsViewOf listed (guide_of predictor) (Log limit))
  log_once limit within ended ended' text text' is is' =
      let Is = IsLog listed.job.arrivals limit listed.listing in
      let one = once limit Is (one_log listed.job.arrivals limit listed.listing) within in
      let same = one is.end is'.end ended.stop ended'.stop text text' is.shows.0 is'.shows.0 in
      (whole same.0 is.shows.1 is'.shows.1, same.1)

  states_once : (stretch : Stretch) → stretch.limit ≤ 2 ^ 40 →
      IsAtMostOne (IsViewOf listed (guide_of predictor) (States stretch))
  states_once stretch within ended ended' text text' is is' =
      let Is = IsStates listed.job.arrivals stretch.from stretch.limit stretch.form listed.listing in
      let one = once stretch.limit Is (one_text listed.job.arrivals stretch.from stretch.limit stretch.form
      listed.listing) within in
      let same = one is.end is'.end ended.stop ended'.stop text text' is.shows.0 is'.shows.0 in
      (whole same.0 is.shows.1 is'.shows.1, same.1)

  explanation_once : (figures : Figures) (path : Bool) (limit : ℕ) → limit ≤ 2 ^ 40 →
      IsAtMostOne (IsViewOf listed (guide_of predictor) (Explanation figures path limit))
  explanation_once figures path limit within ended ended' text text' is is' =
      let (account, asked, shows, none) = is.shows in
      let (account', asked', shows', none') = is'.shows in
      let found = account_once listed.job limit path account' account within asked' asked in
      let Is = λ (a : Option Accounted). IsExplanation listed.job.arrivals limit figures
      listed.job.description a listed.listing in
      let one = one_explanation listed.job.arrivals limit figures listed.job.description account listed.listing in
      let same = once limit (Is account) one within is.end is'.end ended.stop ended'.stop text text' shows
      (subst (λ a. Is a _ is'.end ended'.stop text') found shows') in
      (whole same.0 none none', same.1)

  profile_once : (path : Bool) (limit : ℕ) → limit ≤ 2 ^ 40 →
      IsAtMostOne (IsViewOf listed (guide_of predictor) (Profile path limit))
  profile_once path limit within ended ended' text text' is is' =
      let (account, asked, shows, none) = is.shows in
      let (account', asked', shows', none') = is'.shows in
      let found = account_once listed.job limit path account' account within asked' asked in
      let Is = λ (a : Option Accounted). IsProfile listed.job.arrivals limit listed.job.description a listed.listing in
      let one = one_profile listed.job.arrivals limit listed.job.description account listed.listing in
      let same = once limit (Is account) one within is.end is'.end ended.stop ended'.stop text text' shows
      (subst (λ a. Is a _ is'.end ended'.stop text') found shows') in
      (whole same.0 none none', same.1)

  path_once : (limit : ℕ) → limit ≤ 2 ^ 40 → IsAtMostOne (IsViewOf listed (guide_of predictor) (Path limit))
  path_once limit within ended ended' text text' is is' =
      let Is = IsPath listed.job.arrivals limit listed.listing in
      let one = once limit Is (one_path listed.job.arrivals limit listed.listing) within in
      let same = one is.end is'.end ended.stop ended'.stop text text' is.shows.0 is'.shows.0 in
      (whole same.0 is.shows.1 is'.shows.1, same.1)

-- a job has one view of each kind
pub one_view_of : (listed : ListedJob) (predictor : DescribedPredictor) (view : RunView) → limit_of view ≤ 2 ^ 40 →
    IsAtMostOne (IsViewOf listed (guide_of predictor) view)
one_view_of listed predictor (Picture view path) within = picture_once listed predictor view path within
one_view_of listed predictor (Log limit) within = log_once listed predictor limit within
one_view_of listed predictor (States stretch) within = states_once listed predictor stretch within
one_view_of listed predictor (Explanation figures path limit) within =
    explanation_once listed predictor figures path limit within
one_view_of listed predictor (Profile path limit) within = profile_once listed predictor path limit within
one_view_of listed predictor (Path limit) within = path_once listed predictor limit within
