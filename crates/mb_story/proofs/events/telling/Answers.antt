use Rattle.mb_story.proofs.events.telling.Goals as goal

pub returns-clause-shows : goal.returns-clause-shows
returns-clause-shows g c = λ y x h. record { messages = c.in_ok-messages.ensures y x h; news_are = c.in_ok-news.ensures y x h }
