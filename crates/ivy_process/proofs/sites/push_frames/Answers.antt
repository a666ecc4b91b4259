use Rattle.std.proofs.Common.{◌≡◌, ◌∙◌, ℕ, List, [], ◌∷◌, ◌++◌, ap, sym, append_assoc}
use Rattle.std.specs.Prelude.{string_bytes, unwrap_or}
use Rattle.ivy_wire.specs.Destinations.{dest_of}
use Rattle.ivy_logs.specs.Printed.{frame_line}
use Rattle.ivy_site.specs.SiteView.{SiteView}
use Rattle.ivy_process.specs.NodeLogs.{waiting_line, waiting_lines}
use Rattle.ivy_process.proofs.sites.push_frames.Goals as goal

-- one line more is written, and its string waits no more
frames-more : (text text' bytes read all : List ℕ) (to : ℕ) (waiting more : List (List ℕ)) → read ≡ bytes
    → text' ≡ text ++ frame_line to read → to ≡ unwrap_or (dest_of read) 0 → waiting ≡ bytes ∷ more
    → text ++ waiting_lines waiting ≡ all → text' ++ waiting_lines more ≡ all
frames-more text text' bytes read all to waiting more is pushed dest first before =
    ap (λ t. t ++ waiting_lines more)
    (pushed ∙ ap (λ n. text ++ frame_line n read) dest ∙ ap (λ b. text ++ waiting_line b) is)
    ∙ append_assoc text (waiting_line bytes) (waiting_lines more)
    ∙ ap (λ ws. text ++ waiting_lines ws) (sym first) ∙ before

pub loop-string-preserved : goal.loop-string-preserved
loop-string-preserved c = record {
  same = ap (λ (x : SiteView). record x { waiting = [] }) c.in-Some.ensures.taken.1 ∙ c.loop-string.invariant.same;
  text = frames-more (string_bytes c.loop-string.text) (string_bytes c.push_frame.new.text) c.in-Some.string c.bytes-bytes.result.now
      (string_bytes c.args.text.now ++ waiting_lines c.args.site.now.waiting) c.unwrap_or-to.result
      c.loop-string.site.waiting c.take_frame.new.self.waiting c.bytes-bytes.ensures c.in_ok-push_frame.ensures
      (c.unwrap_or-to.ensures ∙ ap (λ o. unwrap_or o 0) c.destination.ensures.is) c.in-Some.ensures.taken.0
      c.loop-string.invariant.text;
}
