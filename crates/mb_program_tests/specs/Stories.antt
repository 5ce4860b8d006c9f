-- The story of a text.
use Rattle.mb_base.specs.Shapes.{Bytes}
use Rattle.mb_schedule.specs.declared.schedule.Schedule.{Schedule}
use Rattle.mb_sched.specs.Schedules.{IsScheduleText}
use Rattle.mb_story.specs.declared.story.Story.{Story}
use Rattle.mb_story.specs.Stories.{IsStory}
use Rattle.mb_top.specs.Systems.{system_of}

-- It is that of the schedule that the text is, among hosts that keep no keys yet.
pub record IsStoryOf (text : Bytes) (story : Story) : Type 0 where
  pub schedule : Schedule
  pub is : IsScheduleText text schedule
  pub tells : IsStory (system_of schedule) story
