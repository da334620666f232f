mod HeadSteps
