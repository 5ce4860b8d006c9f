-- What a node with a journal does is a run of its host.
use Rattle.std.proofs.Common.{◌≡◌, ◌⊎◌, inl, inr, ℕ, ◌≤◌, ◌<◌, List, [], ◌∷◌, reverse, Option, Some, refl, sym, ap, subst, ◌∙◌, arith}
use Rattle.std.specs.Prelude.{Result}
use Rattle.mb_base.specs.Shapes.{Bytes, host_count}
use Rattle.mb_msg.specs.declared.event.Event.{Event}
use Rattle.mb_model.specs.Histories.{History, Identity}
use Rattle.mb_model.specs.HostStep.{transition, after}
use Rattle.mb_edge.specs.Disks.{Moments, next_all, IsImage}
use Rattle.mb_journal.specs.Headers.{header_text}
use Rattle.mb_journal.specs.Keeping.{JournalState}
use Rattle.mb_journal.specs.Opening.{StaysWhole, KeepsFile}
use Rattle.mb_journal.proofs.Crashes.{leaves_same}
use Rattle.mb_node.specs.declared.stops.ServeStop.{ServeStop}
use Rattle.mb_node.specs.Events.{left_by, events}
use Rattle.mb_node.specs.Outside.{Outside, outside}
use Rattle.mb_node.specs.Serving.{Ends}
use Rattle.mb_node.specs.Keeping.{EndsKept}
use Rattle.mb_restart.specs.Servings.{EndsRun}
use Rattle.mb_restart.proofs.Served.{ends_run}
use Rattle.mb_sched.specs.declared.configs.Config.{Config}
use Rattle.mb_answer.specs.Configs.{used, unused}
use Rattle.mb_edge.specs.Seen.{Device, LinkState, DiskState}
use Rattle.mb_answer.proofs.ConfigLaws.{same_config}
use Rattle.mb_serving.specs.Nodes.{served_status, IsUnbegun, headless, unopened}
use Rattle.mb_serving.specs.Records.{host_of}
use Rattle.mb_serving.specs.Journals.{IsOpen, ServesOn, ServesMore, served, unbegun, ServesKept, opened, bad, unread, no_host, KeptNodes}
use Rattle.mb_top.specs.Reruns.{IsRerun, IsUnsent, Reruns}

-- where a host stands to which these events came
stands_there : {S : Type 0} (self : Identity S) (es : List Event) → left_by self [] es ≡ after self es
unfolding left_by after
stands_there self [] = refl
stands_there self (e ∷ es) = ap (λ (d : History). (transition self d e).left.history) (stands_there self es)

module _ (c : Config) (host : ℕ) where
  unbegun_sends : (head : Bytes) (status : ℕ) (sink sink' : Device) (l l' : LinkState) → IsUnbegun c host head status sink sink' l l' → l'.sent ≡ l.sent
  unbegun_sends head status sink sink' l l' (headless fails heard sent part) = sent
  unbegun_sends head status sink sink' l l' (unopened fails same opens received sent) = sent

  module _ (l l' : LinkState) (before after' : DiskState) (old : Moments) (told : before.moments ≡ Some old) where
    is_rerun : (kept : List Event) (journal journal' : JournalState) (budget status : ℕ) (ended : Result (Unit {0}) ServeStop) → status ≡ served_status ended → (sink sink' : Device) (between : DiskState) → IsOpen c host kept journal before between
        → ServesOn c host kept journal journal' budget ended sink sink' l l' between after' → IsRerun c host status l l' old after'
    is_rerun kept journal journal' budget status ended status_is sink sink' between is_open on =
        let me = host_of c host in
        let opens = is_open.opens old told in
        let open_now : Moments = next_all old opens.since in
        let begun : Outside = record { written = on.begun; sent = l.sent } in
        let start : History = after me (reverse kept) in
        let es : List Event = events me start on.receives in
        let there = stands_there me (reverse kept) in
        let ends = subst (λ (d : History). Ends me d budget begun (outside sink' l') on.replica on.receives ended) there on.ends in
        let keeps = subst (λ (d : History). EndsKept me d begun (outside sink' l') on.replica journal journal' between.moments after'.moments (events me d on.receives) ended) there on.keeps in
        let keeps_so = subst (λ (o : Option Moments). EndsKept me start begun (outside sink' l') on.replica journal journal' o after'.moments es ended) opens.is keeps in
        let header : journal.header ≡ header_text c host = ap (λ (j : JournalState). j.header) is_open.journal_is in
        record {
          kept = kept;
          says = is_open.says old told;
          opened = open_now;
          opens = record { since = opens.since; is = refl; each = opens.each };
          receives = on.receives;
          heard = on.heard;
          ended = ended;
          status_is = status_is;
          ends = subst (λ (d : History). EndsRun me (header_text c host) kept (events me d on.receives) ended open_now l.sent l'.sent after'.moments) (sym there)
              (subst (λ (h : Bytes). EndsRun me h kept es ended open_now l.sent l'.sent after'.moments) header
              (ends_run me kept journal journal' open_now after'.moments begun (outside sink' l') (is_open.rests old told open_now opens.is) budget on.replica on.receives ended ends keeps_so));
        }

    behind : (kept : List Event) (journal : JournalState) (budget status : ℕ) (sink sink' : Device) (between : DiskState) → IsOpen c host kept journal before between
        → ServesMore c host kept journal budget status sink sink' l l' between after' → IsRerun c host status l l' old after' ⊎ IsUnsent c host l l' old after'
    behind kept journal budget status sink sink' between is_open (served journal' ended is on) = inl (is_rerun kept journal journal' budget status ended is sink sink' between is_open on)
    behind kept journal budget status sink sink' between is_open (unbegun is same) = inr (record {
      unsent = unbegun_sends _ status sink sink' l l' is;
      opens = subst (λ (d : DiskState). KeepsFile (header_text c host) old d.moments) same (is_open.opens old told);
    })

by_host : (c d : Config) (host budget status : ℕ) (sink sink' : Device) (l l' : LinkState) (before after' : DiskState) (old : Moments) → d ≡ c → host < host_count c.shape → before.moments ≡ Some old
    → ServesKept d host budget status sink sink' l l' before after' → IsRerun c host status l l' old after' ⊎ IsUnsent c host l l' old after'
by_host c d host budget status sink sink' l l' before after' old same has told (opened kept journal between below is_open serves) =
    subst (λ (x : Config). IsRerun x host status l l' old after' ⊎ IsUnsent x host l l' old after') same (behind d host l l' before after' old told kept journal budget status sink sink' between is_open serves)
by_host c d host budget status sink sink' l l' before after' old same has told (bad at below says is idle) =
    inr (record { unsent = ap (λ (x : LinkState). x.sent) (sym idle); opens = subst (λ (x : Config). KeepsFile (header_text x host) old after'.moments) same (is.opens old told) })
by_host c d host budget status sink sink' l l' before after' old same has told (unread below fails opens same_sink idle) =
    inr (record { unsent = ap (λ (x : LinkState). x.sent) (sym idle); opens = subst (λ (x : Config). KeepsFile (header_text x host) old after'.moments) same (opens old told) })
by_host c d host budget status sink sink' l l' before after' old same has told (no_host beyond says idle still) =
    let far : host_count c.shape ≤ host = subst (λ (x : Config). host_count x.shape ≤ host) same beyond in absurd (omega (arith, far, has))

pub kept_nodes_run : (text : Bytes) (host budget status : ℕ) (source source' sink sink' : Device) (l l' : LinkState) (before after' : DiskState) → KeptNodes text host budget status source source' sink sink' l l' before after'
    → Reruns text host status l l' before after'
kept_nodes_run text host budget status source source' sink sink' l l' before after' (used d is serves) c reads has old told =
    by_host c d host budget status sink sink' l l' before after' old (same_config text d c is reads) has told serves
kept_nodes_run text host budget status source source' sink sink' l l' before after' (unused lacks idle) c reads has old told =
    inr (record {
      unsent = ap (λ (x : LinkState). x.sent) (sym idle.0);
      opens = leaves_same (λ image. IsImage old.now image ⊎ StaysWhole (header_text c host) old.now.reads image) old after'.moments (sym (ap (λ (d : DiskState). d.moments) idle.1) ∙ told);
    })
