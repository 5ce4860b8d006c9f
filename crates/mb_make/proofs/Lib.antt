mod DrawLaws
