use Rattle.std.proofs.Common.{rules, arith, ◌≡◌, ◌<◌, ◌≤◌, ◌+◌, ◌^◌, ◌++◌, false, Some, List, ℕ, drop, length, sym, ◌∙◌, ap, subst}
use Rattle.mon_disk.specs.File.{save_of, found, Finds}
use Rattle.mon_disk.specs.Keeper.{FindsBody, saved_body, spelled, next_saved, shown_from}
use Rattle.mon_disk.specs.Kept.{last_save}
use Rattle.mon_disk.specs.Save.{IsSaveOf}
use Rattle.mon_disk.specs.declared.file.TheConstants.{SLOT_SIZE}
use Rattle.mon_disk.proofs.Gates.{on_err}
use Rattle.mon_disk.proofs.Refused.{refused_before}
use Rattle.mon_disk.proofs.Saves.{generation_found, by_now}
use Rattle.mon_disk.proofs.Spelled.{spelled_size, save_spelled, save_alone, as_next, as_saved, in_whole, run_either}
use Rattle.mon_disk.proofs.keeper.Keeper.save_calls.Goals as goal

pub returns-in_err-generation-clause-save : goal.returns-in_err-generation-clause-save
returns-in_err-generation-clause-save g c =
    refused_before c.args.calls (drop 16 c.args.octets.now) c.args.self.now (λ f h left. g.met.D.Disk.only_now c.args.self.now.device f h left) c.from_residual.result (search rules)
    (search rules)

pub put-requires-clause-room : goal.put-requires-clause-room
put-requires-clause-room g c =
    let body = drop 16 c.args.octets.now in
    let next = c.in_ok-generation.generation in
    let fits : next < 2 ^ 64 = search rules in
    let short : length body < 2 ^ 64 = search rules in
    let octets : c.write_head.new.octets ≡ spelled next body = search rules in
    let small : length body + 17 ≤ SLOT_SIZE = search rules in
    omega (arith, ap length octets, spelled_size next body fits short, small)

pub put-requires-clause-alone : goal.put-requires-clause-alone
put-requires-clause-alone g c = λ rest.
    let body = drop 16 c.args.octets.now in
    let next = c.in_ok-generation.generation in
    let fits : next < 2 ^ 64 = search rules in
    let short : length body < 2 ^ 64 = search rules in
    let octets : c.write_head.new.octets ≡ spelled next body = search rules in
    ap (λ (l : List ℕ). save_of (l ++ rest)) octets ∙ save_spelled next body fits short rest ∙ sym (save_alone next body fits short) ∙ sym (ap save_of octets)

pub put-requires-clause-generation : goal.put-requires-clause-generation
put-requires-clause-generation g c =
    let body = drop 16 c.args.octets.now in
    let next = c.in_ok-generation.generation in
    let fits : next < 2 ^ 64 = search rules in
    let short : length body < 2 ^ 64 = search rules in
    let octets : c.write_head.new.octets ≡ spelled next body = search rules in
    ap (λ (l : List ℕ). (save_of l).generation) octets ∙ ap (λ s. s.generation) (save_alone next body fits short)

pub put-requires-clause-fits : goal.put-requires-clause-fits
put-requires-clause-fits g c =
    let body = drop 16 c.args.octets.now in
    let next = c.in_ok-generation.generation in
    let fits : next < 2 ^ 64 = search rules in
    let short : length body < 2 ^ 64 = search rules in
    let octets : c.write_head.new.octets ≡ spelled next body = search rules in
    let small : length body + 17 ≤ SLOT_SIZE = search rules in
    let size : (save_of c.write_head.new.octets).size ≡ length body = ap (λ (l : List ℕ). (save_of l).size) octets ∙ ap (λ s. s.size) (save_alone next body fits short) in
    omega (arith, size, small)

pub returns-in_err-put-clause-save : goal.returns-in_err-put-clause-save
returns-in_err-put-clause-save g c =
    let body = drop 16 c.args.octets.now in
    let next = c.in_ok-generation.generation in
    let fits : next < 2 ^ 64 = search rules in
    let short : length body < 2 ^ 64 = search rules in
    let octets : c.write_head.new.octets ≡ spelled next body = search rules in
    let s = save_of c.write_head.new.octets in
    let said : s.body ≡ body = ap (λ (l : List ℕ). (save_of l).body) octets ∙ ap (λ s. s.body) (save_alone next body fits short) in
    let k = c.args.self.now in
    let fresh : k.spoiled ≡ false = search rules in
    let file = g.D.Disk.seen k.device in
    let run = λ (h : g.D.Disk.is_honest k.device). run_either g.D.Disk.moment g.D.Disk.left_since g.D.Disk.may_leave k.device c.put.new.self.device k.newest file body s (g.met.D.Disk.seen_now k.device h) (k.kept fresh h) said (c.put.ensures.any_moment h) in
    let disk : (h : g.D.Disk.is_honest k.device) → IsSaveOf {T = Unit {0}} g.D.Disk c.args.calls body k.device c.put.new.self.device c.from_residual-in_err-put.result = λ h.
    let ran = run h in
    let event = on_err c.from_residual-in_err-put.result _ ran in
    record { seen = search rules; synced = search rules; whole = search rules; saved = search rules; any_moment = ran; happens = search rules; happens_err = event; no_more_found = search rules } in
    let stays : (h : g.D.Disk.is_honest k.device) → last_save c.put.new.self ≡ last_save k = λ h. c.in_err-put.ensures.last_err h in
    search (rules, disk, λ (h : g.D.Disk.is_honest k.device). on_err c.from_residual-in_err-put.result _ (ap saved_body (stays h)))

pub returns-clause-save : goal.returns-clause-save
returns-clause-save g c =
    let body = drop 16 c.args.octets.now in
    let next = c.in_ok-generation.generation in
    let fits : next < 2 ^ 64 = search rules in
    let short : length body < 2 ^ 64 = search rules in
    let octets : c.write_head.new.octets ≡ spelled next body = search rules in
    let s = save_of c.write_head.new.octets in
    let said : s.body ≡ body = ap (λ (l : List ℕ). (save_of l).body) octets ∙ ap (λ s. s.body) (save_alone next body fits short) in
    let k = c.args.self.now in
    let fresh : k.spoiled ≡ false = search rules in
    let file = g.D.Disk.seen k.device in
    let now = g.D.Disk.seen c.put.new.self.device in
    let found_save = λ (h : g.D.Disk.is_honest k.device).
    let kept = k.kept fresh h in
    as_next (found SLOT_SIZE file) body c.write_head.new.octets next fits short octets (omega (arith, c.in_ok-generation.ensures.next, generation_found SLOT_SIZE k.newest file kept.whole kept.newest_is)) in
    let saved = λ (h : g.D.Disk.is_honest k.device) (all : 6 ≤ c.args.calls) (f : List ℕ) (left : g.D.Disk.may_leave c.put.new.self.device f).
    let finds : Finds SLOT_SIZE (next_saved (found SLOT_SIZE file) body) now = subst (λ o. Finds SLOT_SIZE o now) (by_now 5 c.args.calls (found SLOT_SIZE file) (Some s) (omega (arith, all)) ∙ found_save h) (c.in_ok-put.ensures.seen h).finds in
    subst (FindsBody (Some body)) (sym (c.in_ok-put.ensures.durable h all f left)) (as_saved (found SLOT_SIZE file) body now finds) in
    record {
      refused = search rules;
      on_disk = λ h. record {
        seen = (c.in_ok-put.ensures.seen h).finds.finds ∙ ap (shown_from 5 c.args.calls (found SLOT_SIZE file)) (found_save h);
        synced = (c.in_ok-put.ensures.synced h).finds.finds ∙ ap (shown_from 6 c.args.calls (found SLOT_SIZE file)) (found_save h);
        whole = (in_whole _ _ (c.in_ok-put.ensures.seen h), in_whole _ _ (c.in_ok-put.ensures.synced h));
        saved = saved h;
        any_moment = run_either g.D.Disk.moment g.D.Disk.left_since g.D.Disk.may_leave k.device c.put.new.self.device k.newest file body s (g.met.D.Disk.seen_now k.device h) (k.kept fresh h) said (c.put.ensures.any_moment h);
        happens = saved h;
        happens_err = tt;
        no_more_found = search rules;
      };
      none = search rules;
      fresh = search rules;
      spoiled = search rules;
      same = search rules;
      generation = search rules;
      last = λ h all. ap saved_body (c.in_ok-put.ensures.last h all) ∙ ap Some said;
      last_before = λ h less. ap saved_body (c.in_ok-put.ensures.last_before h less);
      last_err = λ h. tt;
      fits = search rules;
      honest = search rules;
      count = search rules;
      told = search rules;
    }
