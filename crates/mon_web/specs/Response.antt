-- What is answered on a connection, by what pages show.
use Rattle.std.specs.Prelude.{◌≡◌, ◌⊎◌, Bool, true, false}
use Rattle.mon_http.specs.declared.request.Verdict.{Verdict}
use Rattle.mon_http.specs.Conversation.{Conversation, Moment as Replies, with_text, len_of, keeps}
use Rattle.mon_http.specs.Conversation.{said}
use Rattle.mon_http.specs.Request.{IsJudged, IsQuiet}
use Rattle.mon_web.specs.declared.response.Moment.{Moment}
use Rattle.mon_web.specs.Pages.{View, out_of_memory, reply_for}

-- what pages answer at this time
abbrev pub replies : View → Moment → Replies
replies view at = record { date = at.date; reply = λ route. reply_for view at.now route }

-- what is answered at this time if there is no memory for the texts
abbrev pub poor_replies : Moment → Replies
poor_replies at = record { date = at.date; reply = λ route. out_of_memory }

-- the connection after the response to what was judged
abbrev pub after : Replies → Verdict → Conversation → Conversation
after replies verdict c = with_text (len_of verdict) (keeps verdict) (said replies verdict) c

-- Nothing is answered, and more octets are needed; or what was judged is answered by what the pages
-- show, or that there is no memory for that. These are the steps of mon_http's histories.
abbrev pub IsResponse : View → Moment → Conversation → Bool → Conversation → Type 0
IsResponse view at old false new = IsQuiet old.unread × (new ≡ old)
IsResponse view at old true new = (verdict : Verdict) × IsJudged view.names old.unread verdict
    × ((new ≡ after (replies view at) verdict old) ⊎ (new ≡ after (poor_replies at) verdict old))
