use Rattle.std.proofs.Common.{◌∙◌, ◌++◌, List, ℕ, ap, codes, decimal, length, string_bytes}
use Rattle.mon_oid.specs.Oid.{dotted}
use Rattle.mon_poller.specs.declared.target.Object.{Object}
use Rattle.mon_settings_commands.specs.Notes.{form_of}
use Rattle.mon_settings_commands.specs.Tried.{first_name, poll_text}
use Rattle.mon_settings_commands.proofs.Lines.{reads_as}
use Rattle.mon_settings_commands.proofs.failing.poll_text.Goals as goal

-- the pieces of the text
abbrev text_of : (agent : List ℕ) (count : ℕ) (noun first : List ℕ) → List ℕ
text_of agent count noun first = agent ++ (codes ": a poll of " ++ (decimal count ++ (noun ++ (codes " from " ++ (first ++ codes " on")))))

pub returns : goal.returns
returns c =
    let agent = c.args.agent.now in
    let all = c.as_slice-objects.result.now in
    let first = string_bytes c.in_ok-first.first in
    reads_as c.format.result _ (poll_text agent c.args.target.now) c.format.ensures.ok
    (ap (λ (w : List ℕ). text_of agent (length all) w first) c.form_of-noun.ensures
    ∙ (ap (λ (f : List ℕ). text_of agent (length all) (form_of (length all) (codes " object") (codes " objects")) f) c.in_ok-first.ensures
    ∙ ap (λ (os : List Object). text_of agent (length os) (form_of (length os) (codes " object") (codes " objects")) (dotted (first_name os))) c.as_slice-objects.ensures))
