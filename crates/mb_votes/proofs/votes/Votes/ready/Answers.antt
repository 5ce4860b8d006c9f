use Rattle.std.proofs.Common.{◌≡◌, ℕ, ◌+◌, length, ◌∙◌, subst, inl, inr, arith}
use Rattle.std.proofs.lemmas.Bool.{cases_lt}
use Rattle.mb_base.specs.Shapes.{span}
use Rattle.mb_votes.specs.Ballots.{vote_at}
use Rattle.mb_votes.specs.Votes.{Agrees}
use Rattle.mb_votes.proofs.Scans.{agrees_found, found_agrees, nobody_agrees, beyond}
use Rattle.mb_votes.proofs.votes.Votes.ready.Goals as goal

pub returns-then-agrees : goal.returns-then-agrees
returns-then-agrees c = λ s low search st.
    let t = c.args.self.now in
    let p : ℕ = c.low-low.result + 1 + c.loop-step.step in
    let low_is : c.low-low.result ≡ low = c.low-low.ensures ∙ st.low_is in (
      omega (arith, low_is),
      agrees_found s t low search st p (c.agrees.ensures.yes c.if-agrees.true),
      λ q above below a. c.loop-step.invariant q (omega (arith, low_is, above)) below (found_agrees s t low search st q a),
    )

pub loop-step-preserved : goal.loop-step-preserved
loop-step-preserved c = λ q above below a.
    let t = c.args.self.now in
    let p : ℕ = c.low-low.result + 1 + c.loop-step.step in
    elim (cases_lt q p) [
      | inl lt ↦ c.loop-step.invariant q above lt a
      | inr ge ↦
          let here : q ≡ p = omega (arith, below, ge) in
          let agrees = c.agrees.ensures.no (subst (Agrees t.shape (vote_at t.ballots)) here a) in
          let denied = c.if-agrees.false in
          absurd cc
    ]

pub returns : goal.returns
returns c = λ s low search st q above a.
    let t = c.args.self.now in
    let low_is : c.low-low.result ≡ low = c.low-low.ensures ∙ st.low_is in
    let agrees = found_agrees s t low search st q a in
    elim (cases_lt q (c.low-low.result + 1 + c.loop-step.step)) [
      | inl lt ↦ c.loop-step.invariant q (omega (arith, low_is, above)) lt agrees
      | inr ge ↦
          let first : c.low-low.result ≡ t.ballots.low = c.low-low.ensures in
          let width : length t.ballots.items ≡ span t.shape = t.span_is in
          let end : c.from-step-end.result ≡ span t.shape = c.from-step-end.ensures ∙ c.span.ensures in
          let done = c.loop-step-test.false in
          nobody_agrees t.shape t.ballots q (beyond t.ballots q (omega (arith, first, width, end, done, ge))) agrees
    ]
